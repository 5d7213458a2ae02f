use mathlib.Core.Path.{ap, ◌∙◌}
use mathlib.Core.List.{◌++◌}
use native.Mathlib.Omega.{arith}
use lib.ListN.{length, take, drop}
use Rattle.listing.proofs.Whole.{written_whole}
use Rattle.listing.proofs.play.Player.play.Goals as goal

pub returns : goal.returns
returns c =
    let lines = c.args.self.now.lines in
    let n = c.list-n.result in
    ap (take n) c.deref.ensures.value
    ∙ ap (λ o. take n (take lines.len (o ++ drop (length c.list-n.new.out) lines.items))) c.list-n.ensures.out_after
    ∙ written_whole c.deref_mut.result.now _ _ lines.len n c.deref_mut.ensures.len c.list-n.ensures.value (omega (arith, c.list-n.ensures.upper_bound, c.args.self.now.room))
