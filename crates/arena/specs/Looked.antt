-- What an audit finds: with the places of the chain looked at, or what is wrong and the places looked at until it was
-- found.
use Rattle.std.specs.Prelude.{ℕ, Result, Ok, Err}
use Rattle.model.specs.Answers.{verdict_number}
use Rattle.arena.specs.declared.audit.Flaw.{Flaw}

-- The verdict's number: 0 is sound.
abbrev pub looked_verdict : Result ℕ Flaw → ℕ
looked_verdict (Ok n) = 0
looked_verdict (Err f) = verdict_number (Err f.unsound)

-- The number of places looked at.
abbrev pub looked_number : Result ℕ Flaw → ℕ
looked_number (Ok n) = n
looked_number (Err f) = f.looks
