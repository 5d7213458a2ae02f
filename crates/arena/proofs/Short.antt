-- The places of fit tables fit 16 bits. Assumes nothing.
use Prim.Native.Nat.{ℕ, ◌≤◌}
use mathlib.Core.Path.{◌≡◌}
use mathlib.Core.Bool.{false}
use mathlib.Core.List.{List}
use lib.ListN.{length}
use Rattle.model.specs.Store.{tables, limit}
use Rattle.model.specs.Refusals.{tables_unfit}
use Rattle.model.proofs.Refusals.{tables_fit}

pub tables_short : (k l v : List ℕ) → tables_unfit (tables k l v) ≡ false → length k ≤ limit
tables_short k l v e = (tables_fit (tables k l v) e).short
