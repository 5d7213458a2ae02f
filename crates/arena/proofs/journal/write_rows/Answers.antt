-- A turn writes the row of the next place's message, or finds that place free.
use mathlib.Core.Path.{◌∙◌}
use native.Mathlib.Omega.{arith}
use Rattle.arena.proofs.Writing.{writing_starts, writing_low, writing_live, writing_free}
use Rattle.arena.proofs.journal.write_rows.Goals as goal
use Rattle.arena.proofs.journal.write_rows.Goals.{then-old-ne0, else-old-ne0, then-moves, else-moves}

pub loop-p-init : goal.loop-p-init
loop-p-init g c = writing_starts g.met.J.Journal.laws c.args.generations.now c.args.moves c.args.journal.now

pub overflow_add-n : goal.overflow_add-n
overflow_add-n g c = omega (arith, c.loop-p-test.true, c.loop-p.invariant.within, writing_low c.loop-p.invariant)

pub loop-p-preserved : goal.loop-p-preserved
loop-p-preserved g c =
    elim c.if-old-ne0.branch [
      | then-old-ne0 w ↦
          rw (w.journal-is, w.generation-is, w.n-is)
          (writing_live g.met.J.Journal.laws c.loop-p-test.true c.ptr_at-old.ensures w.if-old-ne0.true w.generational_inc-stepped.ensures
          (elim w.if-moves.branch [
            | then-moves v ↦ rw v.if-moves.true v.overflow-is
            | else-moves v ↦ rw v.if-moves.false (v.overflow-is ∙ v.if-moves.false)
          ]) w.new-new.ensures w.write_row.ensures c.loop-p.invariant)
      | else-old-ne0 w ↦
          rw (w.journal-is, w.generation-is, w.n-is)
          (writing_free c.loop-p-test.true c.ptr_at-old.ensures w.if-old-ne0.false c.loop-p.invariant)
    ]
