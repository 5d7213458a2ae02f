-- Section "The sequence file": the code of each command.
use Rattle.std.specs.Prelude.{ℕ, ◌≡◌, ◌||◌, true, eqb, ltb, Result, MatchResult}
use Rattle.model.specs.declared.Code.{Code}
use Rattle.model.specs.declared.UnknownCode.{UnknownCode}

abbrev pub code_number : Code → ℕ
code_number Code.Insert = 1
code_number Code.Remove = 2
code_number Code.Invalidate = 3
code_number Code.Get = 4
code_number Code.Clear = 5
code_number Code.Order = 6
code_number Code.Compress = 7
code_number Code.Audit = 8
code_number Code.SetGeneration = 9
code_number Code.RemoveIndex = 10

-- The command that has the code, or that none has it.
abbrev pub Names : ℕ → Result Code UnknownCode → Type 0
Names code r = MatchResult r (λ c. code_number c ≡ code) (λ e. (e.0 ≡ code) × ((eqb code 0 || ltb 10 code) ≡ true))
