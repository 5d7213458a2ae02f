-- Written up to a byte, one byte more at each turn.
use Rattle.std.proofs.Common.{◌+◌, take}
use Rattle.listing.specs.Written.{Written}
use Rattle.listing.proofs.text.write_at.Given as goal

abbrev pub invariant-loop-i : goal.invariant-loop-i
invariant-loop-i l = Written l.initial.out l.out l.start (take l.i l.text) (l.start + l.i)
