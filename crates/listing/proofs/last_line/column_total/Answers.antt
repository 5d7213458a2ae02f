-- A row more, and none left. That the tally has ten rows is in its type.
use Rattle.std.proofs.Common.{◌≡◌, length, arith}
use Rattle.listing.proofs.Sums.{total_next, total_none}
use Rattle.listing.proofs.last_line.column_total.Goals as goal

pub loop-counts-preserved : goal.loop-counts-preserved
loop-counts-preserved c =
    let long : length c.args.tally ≡ 10 = omega arith in
    let next = total_next c.args.column c.args.tally c.loop-counts.counts-index (omega arith) in
    (omega (arith, c.loop-counts.invariant.0, next, c.from-sum.ensures), omega arith)

pub returns : goal.returns
returns c =
    let none = total_none c.args.column c.args.tally c.loop-counts.counts-index (omega arith) in
    omega (arith, c.loop-counts.invariant.0, none)
