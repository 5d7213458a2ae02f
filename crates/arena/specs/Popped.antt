-- Places popped one after the other.
use Rattle.std.specs.Prelude.{ℕ, zero, suc, ◌+◌}
use Rattle.model.specs.Store.{Tables, popped}

-- The tables with the j places above place n popped.
unfoldable pub popped_above : Tables → ℕ → ℕ → Tables
popped_above t n zero = t
popped_above t n (suc j) = popped (popped_above t n j) (n + j + 1)
