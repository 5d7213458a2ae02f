use mathlib.Core.Path.{refl}
use native.Mathlib.Omega.{arith}
use Rattle.arena.proofs.MovingDown.{moving_starts, moving_low, moving_live, moving_free}
use Rattle.arena.proofs.compress.move_down.Goals as goal
use Rattle.arena.proofs.compress.move_down.Goals.{then-entry-ne0, else-entry-ne0}

pub loop-i-init : goal.loop-i-init
loop-i-init c = moving_starts _ _ _

pub overflow_add-n : goal.overflow_add-n
overflow_add-n c = let low = moving_low c.loop-i.invariant in omega arith

pub loop-i-preserved : goal.loop-i-preserved
loop-i-preserved c =
    elim c.if-entry-ne0.branch [
      | then-entry-ne0 w ↦
          rw (w.generations-is, w.links-is, w.values-is, w.n-is)
          (moving_live refl (omega arith) c.entry.ensures w.if-entry-ne0.true w.entry-value.ensures w.fill_place.ensures
          c.loop-i.invariant)
      | else-entry-ne0 w ↦
          rw (w.generations-is, w.links-is, w.values-is, w.n-is)
          (moving_free refl (omega arith) c.entry.ensures w.if-entry-ne0.false c.loop-i.invariant)
    ]
