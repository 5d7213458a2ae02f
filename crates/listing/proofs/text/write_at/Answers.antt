-- One byte more.
use Rattle.std.proofs.Common.{◌<◌, length, arith}
use Rattle.listing.proofs.Texts.{written_next}
use Rattle.listing.proofs.text.write_at.Goals as goal

pub loop-i-preserved : goal.loop-i-preserved
loop-i-preserved c =
    let h : c.loop-i.i < length c.args.text.now = omega arith in
    written_next c.args.text.now h c.loop-i.invariant c.put.ensures
