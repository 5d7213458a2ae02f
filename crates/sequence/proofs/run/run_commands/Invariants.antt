use Prim.Native.Nat.{◌+◌, ◌-◌}
use Rattle.model.specs.Store.{tables}
use Rattle.sequence.proofs.Running.{Going}
use Rattle.sequence.proofs.run.run_commands.Given as goal

abbrev pub invariant-loop-q : goal.invariant-loop-q
invariant-loop-q g l =
    Going g.J.Journal.rows g.J.Journal.written l.file (tables l.initial.generations l.initial.links l.initial.values) l.initial.q.next l.initial.q.header
    l.initial.journal (tables l.generations l.links l.values) l.q.next l.q.header l.journal l.tally.rows

abbrev pub decreases-loop-q : goal.decreases-loop-q
decreases-loop-q g l = l.n + 1 - l.q.next
