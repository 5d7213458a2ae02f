-- Section "The calls": the answer of a call, and that of a sequence's step.
use Rattle.std.specs.Prelude.{ℕ}
use Rattle.model.specs.declared.Ptr.{Ptr}

-- Done, or done with an overflow, with the handle and the value that it shows; or refused, with the refusal's number.
pub data Answer : Type 0 where
  Done : Ptr → ℕ → Answer
  Overflow : Ptr → ℕ → Answer
  Refused : ℕ → Answer

-- Turned down, with the refusal's number and the command at fault (0 where none is); past the last command; or its
-- command's answer.
pub data StepAnswer : Type 0 where
  TurnedDown : ℕ → ℕ → StepAnswer
  End : StepAnswer
  Ran : Answer → StepAnswer
