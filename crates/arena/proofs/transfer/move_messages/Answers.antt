use native.Mathlib.Nat.{add-sub_cancel}
use native.Mathlib.Omega.{arith}
use Rattle.model.specs.Store.{tables, store}
use Rattle.arena.proofs.Transferring.{Moving, moving_starts, moving_live, moving_free, moving_low, moving_ends}
use Rattle.arena.proofs.transfer.move_messages.Goals as goal
use Rattle.arena.proofs.transfer.move_messages.Goals.{then-entry-ne0, else-entry-ne0, Joined-entry-ne0}

-- Place p too is done with: its message is moved, or it is free.
turn : (c : Joined-entry-ne0)
    → Moving (tables c.args.dgens.now c.args.dlinks.now c.args.dvalues.now)
    (store (tables c.args.sgens.now c.args.slinks.now c.args.svalues.now) c.args.s.now) c.args.generation c.args.s.now.m
    (tables c.if-entry-ne0.dgens c.if-entry-ne0.dlinks c.if-entry-ne0.dvalues)
    (store (tables c.if-entry-ne0.sgens c.if-entry-ne0.slinks c.if-entry-ne0.svalues) c.if-entry-ne0.s) c.if-entry-ne0.n c.loop-p.p
turn c =
    elim c.if-entry-ne0.branch [
      | then-entry-ne0 w ↦
          rw (w.dgens-is, w.dlinks-is, w.dvalues-is, w.sgens-is, w.slinks-is, w.svalues-is, w.s-is, w.n-is)
          (moving_live (omega arith) c.loop-p-test.true c.entry.ensures w.if-entry-ne0.true w.entry-then-entry-ne0.ensures w.fill_place.ensures
          w.remove_internal.ensures c.loop-p.invariant)
      | else-entry-ne0 w ↦
          rw (w.dgens-is, w.dlinks-is, w.dvalues-is, w.sgens-is, w.slinks-is, w.svalues-is, w.s-is, w.n-is)
          (moving_free (omega arith) c.loop-p-test.true c.entry.ensures w.if-entry-ne0.false c.loop-p.invariant)
    ]

pub loop-p-init : goal.loop-p-init
loop-p-init c = moving_starts _ _ _ _

pub overflow_add-n : goal.overflow_add-n
overflow_add-n c = let low = moving_low c.loop-p.invariant in omega arith

pub loop-p-preserved : goal.loop-p-preserved
loop-p-preserved c = rw add-sub_cancel (turn (goal.at.loop-p-preserved c).Joined-entry-ne0)

pub returns-after-entry-ne0 : goal.returns-after-entry-ne0
returns-after-entry-ne0 c = moving_ends (omega arith) (turn (goal.at.returns-after-entry-ne0 c).Joined-entry-ne0)
