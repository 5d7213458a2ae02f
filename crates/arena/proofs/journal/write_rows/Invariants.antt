use Rattle.arena.proofs.Writing.{Writing}
use Rattle.arena.proofs.journal.write_rows.Given as goal

abbrev pub invariant-loop-p : goal.invariant-loop-p
invariant-loop-p g l = Writing g.J.Journal.written l.generations l.moves l.initial.journal l.journal l.generation l.n l.p
