use Prim.Native.Nat.{◌+◌, ◌-◌}
use Rattle.model.specs.Store.{tables}
use Rattle.model.specs.Listing.{lines}
use Rattle.listing.specs.Written.{Written}
use Rattle.sequence.specs.LentRun.{beginning}
use Rattle.sequence.proofs.Running.{Going}
use Rattle.listing.proofs.run.list_commands.Given as goal

abbrev pub invariant-loop-q : goal.invariant-loop-q
invariant-loop-q g l =
    Going g.J.Journal.rows g.J.Journal.written l.file (tables l.initial.generations l.initial.links l.initial.values) l.initial.q.next l.initial.q.header
    l.initial.journal (tables l.generations l.links l.values) l.q.next l.q.header l.journal l.tally.rows
    × Written l.initial.out l.out 0
    (lines (l.q.next - l.initial.q.next) l.file
    (beginning (tables l.initial.generations l.initial.links l.initial.values) l.initial.q (g.J.Journal.rows l.initial.journal))) l.at

abbrev pub decreases-loop-q : goal.decreases-loop-q
decreases-loop-q g l = l.n + 1 - l.q.next
