-- A place that is found, as code answers it: the definitions say 0 where there is none.
use Rattle.std.specs.Prelude.{ℕ, List, Option, None, Some, cond, eqb}
use Rattle.model.specs.Store.{ptr, at}
use Rattle.model.specs.declared.Ptr.{Ptr}

unfoldable pub some_place : ℕ → Option ℕ
some_place p = cond (eqb p 0) None (Some p)

-- The handle of the message at a place.
unfoldable pub found_ptr : List ℕ → Option ℕ → Option Ptr
found_ptr k None = None
found_ptr k (Some p) = Some (ptr p (at k p))
