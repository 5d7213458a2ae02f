-- Answers and headers in the form in which C and Rust take them.
use Rattle.std.specs.Prelude.{ℕ, List, get_or}
use Rattle.model.specs.Store.{header}
use Rattle.model.specs.Answers.{kind, number, shown_ptr, shown_value}
use Rattle.model.specs.Answer.{Answer}
use Rattle.model.specs.Answer.{StepAnswer}
use Rattle.model.specs.declared.Header.{Header}
use Rattle.model.specs.declared.Ptr.{Ptr}
use Rattle.nektawul.specs.declared.answer.FlatAnswer.{FlatAnswer}

-- An answer of this kind that shows a handle and a value, and one that shows none, with a refusal's number and the
-- command at fault.
abbrev pub shown : ℕ → Ptr → ℕ → FlatAnswer
shown k p v = record { value = v; kind = k; refusal = 0; index = p.index; generation = p.generation }

abbrev pub unshown : ℕ → ℕ → ℕ → FlatAnswer
unshown k n c = record { value = 0; kind = k; refusal = n; index = c; generation = 0 }

-- The answer of a call.
unfoldable pub flat : Answer → FlatAnswer
flat a =
    record {
      value = shown_value a;
      kind = kind a;
      refusal = number a;
      index = (shown_ptr a).index;
      generation = (shown_ptr a).generation;
    }

-- The answer of a sequence's step.
unfoldable pub flat_step : StepAnswer → FlatAnswer
flat_step (StepAnswer.TurnedDown n c) = unshown 4 n c
flat_step StepAnswer.End = unshown 3 0 0
flat_step (StepAnswer.Ran a) = flat a

-- A header: `len`, m and root, and the current generation.
abbrev pub header_of : List ℕ → ℕ → Header
header_of counts g = header (get_or counts 0 0) (get_or counts 1 0) (get_or counts 2 0) g
