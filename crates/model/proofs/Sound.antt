-- A new store is sound. Assumes nothing.
use Prim.Native.Nat.{ℕ, ◌≤◌}
use mathlib.Core.Path.{◌≡◌, refl}
use mathlib.Core.Bool.{false}
use lib.ListN.{length-replicate}
use lib.Dec.{leb-suc-zero}
use borrow.Author.Tests.{eq-eqb, le-ltb}
use Rattle.model.specs.Store.{limit, new}
use Rattle.model.specs.Freelist.{live_count}
use Rattle.model.specs.Audit.{shape_verdict, verdict}
use Rattle.model.specs.Refusals.{tables_unfit}
use Rattle.model.specs.Calls.{outcome, done, unless, audit}

pub new_sound : (C : ℕ) → verdict (new C) ≡ 0
unfolding verdict new shape_verdict live_count
new_sound C = simp leb-suc-zero

new_fits : (C : ℕ) → C ≤ limit → tables_unfit (new C).tables ≡ false
unfolding tables_unfit new
new_fits C h = simp (length-replicate, eq-eqb C C refl, le-ltb limit C h)

-- Its audit says so.
pub new_audited : (C : ℕ) → C ≤ limit → audit (new C) ≡ outcome done (new C)
unfolding audit unless
new_audited C h = simp (new_sound, new_fits C h)
