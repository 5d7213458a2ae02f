-- What is summed and what is left make up the sum.
use Rattle.std.proofs.Common.{◌≡◌, ◌+◌, ◌*◌, ◌≤◌, drop}
use Rattle.model.specs.Listing.{total}
use Rattle.listing.proofs.last_line.column_total.Given as goal

abbrev pub invariant-loop-counts : goal.invariant-loop-counts
invariant-loop-counts l =
    (l.sum + total l.column (drop l.counts-index l.fn.tally) ≡ total l.column l.fn.tally) × (l.sum ≤ 4294967295 * l.counts-index)
