-- Section "The sequence file", the check: what turns a step down before its commands are looked at.
use Rattle.std.specs.Prelude.{ℕ, List, [], ◌∷◌, length}
use Rattle.model.specs.Tests.{first_holding}
use Rattle.model.specs.Store.{Tables}
use Rattle.model.specs.Refusals.{tables_unfit, wrong_length, wrong_mark, wrong_places}

-- 1, and then 10 to 12 on the file.
abbrev pub head_refusal : Tables → List ℕ → ℕ → ℕ
head_refusal t b next =
    first_holding
    ((1, tables_unfit t) ∷ (10, wrong_length b) ∷ (11, wrong_mark b) ∷ (12, wrong_places b (length t.generations) next) ∷ [])
