use mathlib.Core.Path.{ap, ◌∙◌}
use mathlib.Core.List.{◌++◌}
use native.Mathlib.Omega.{arith}
use lib.ListN.{length, take, drop}
use Rattle.listing.proofs.Whole.{written_whole}
use Rattle.listing.proofs.play.play.Goals as goal

pub returns : goal.returns
returns c =
    let k = c.in_ok-lines.lines.len in
    let n = c.list-n.result in
    c.truncate.ensures.items
    ∙ ap (λ o. take n (take k (o ++ drop (length c.list-n.new.out) c.in_ok-lines.lines.items))) c.list-n.ensures.out_after
    ∙ written_whole c.deref_mut.result.now _ _ k n c.deref_mut.ensures.len c.list-n.ensures.value (omega (arith, c.list-n.ensures.upper_bound, c.in_ok-lines.ensures.len))
