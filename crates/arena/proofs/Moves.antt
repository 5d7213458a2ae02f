-- A cursor that moves within the stack comes to its end. Assumes nothing.
use Prim.Native.Nat.{ℕ, ◌+◌, ◌-◌, ◌≤◌, ◌<◌}
use mathlib.Core.Path.{◌≡◌, refl}
use mathlib.Core.Bool.{Bool, true, false, cond}
use native.Mathlib.Decide.{ℕ_discrete}
use native.Mathlib.Omega.{arith}
use lib.Dec.{eqb}
use borrow.Author.Tests.{eq-eqb, ne_eqb}
use Rattle.model.specs.Store.{max_index}
use Rattle.model.specs.Calls.{moved}
use Rattle.model.specs.declared.Cursor.{Cursor}

-- The most moves left to a cursor in a stack of m places: down to 0, or up past m. A spent cursor has none, also
-- forward, where the largest index moves to 0.
unfoldable pub moves_left : ℕ → Cursor → ℕ
moves_left m c = cond c.rev c.index (cond (eqb c.index 0) 0 (m + 1 - c.index))

-- A move leaves fewer.
pub moves_fewer : (m : ℕ) (c : Cursor) → (c.index ≡ 0 → ⊥) → c.index ≤ m → moves_left m (moved c) < moves_left m c
unfolding moves_left moved
moves_fewer m c n low = go c.rev refl
  where
    go : (b : Bool) → c.rev ≡ b → moves_left m (moved c) < moves_left m c
    go true r = rw r (omega arith)
    go false r =
        elim (ℕ_discrete c.index max_index) [
          | yes e ↦ rw (r, ne_eqb c.index 0 n, eq-eqb c.index max_index e) (omega arith)
          | no d ↦
              rw (r, ne_eqb c.index 0 n, ne_eqb c.index max_index d, ne_eqb (c.index + 1) 0 (λ e. omega arith)) (omega arith)
        ]
