-- Tests in checking order.
use Rattle.std.specs.Prelude.{ℕ, List, [], ◌∷◌, Bool, cond}

-- Of tests with their numbers, the number of the first that holds, or 0 where none does.
abbrev pub first_holding : List (ℕ × Bool) → ℕ
first_holding [] = 0
first_holding (t ∷ ts) = cond t.1 t.0 (first_holding ts)
