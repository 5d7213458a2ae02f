-- What is shown of a find's, an advance's and a drain's answer is its reading, where that is an answer of a call.
-- Assumes nothing.
use mathlib.Core.Path.{◌≡◌, refl}
use mathlib.Core.Bool.{Bool, true, false, cond}
use lib.Dec.{eqb}
use Rattle.std.specs.Prelude.{Option, None, Some, Result, Ok, Err}
use Rattle.model.specs.Answer.{Answer}
use Rattle.model.specs.Answers.{found_answer, drained_answer}
use Rattle.model.proofs.Readings.{Proper}
use Rattle.model.specs.declared.Ptr.{Ptr}
use Rattle.model.specs.declared.Message.{Message}
use Rattle.model.specs.declared.Completed.{Completed}
use Rattle.model.specs.declared.Refusal.{Refusal}
use Rattle.sequence.specs.Shown.{found_shown, drained_shown}

-- Where a test would give no answer, it fails.
with_handle : (b : Bool) (a : Answer) → Proper (cond b (Answer.Refused 0) a) → a ≡ cond b (Answer.Refused 0) a
with_handle true a h = absurd (h refl)
with_handle false a h = refl

pub found_proper : (a : Result (Option Ptr) Refusal) → Proper (found_answer a) → found_shown a ≡ found_answer a
found_proper (Ok (Some p)) h = with_handle (eqb p.index 0) _ h
found_proper (Ok None) h = refl
found_proper (Err r) h = refl

pub drained_proper : (a : Result (Option (Completed Message)) Refusal) → Proper (drained_answer a) → drained_shown a ≡ drained_answer a
drained_proper (Ok (Some (Completed.Done x))) h = with_handle (eqb x.ptr.index 0) _ h
drained_proper (Ok (Some (Completed.Overflow x))) h = with_handle (eqb x.ptr.index 0) _ h
drained_proper (Ok None) h = refl
drained_proper (Err r) h = refl
