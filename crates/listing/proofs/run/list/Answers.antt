use mathlib.Core.Path.{ap, ◌∙◌}
use native.Mathlib.Omega.{arith}
use Rattle.model.specs.Listing.{listing}
use Rattle.listing.proofs.Lent.{places_fit, length_part, listing_lent}
use Rattle.listing.proofs.Short.{short_listing}
use Rattle.listing.proofs.Long.{read_enough}
use Rattle.listing.proofs.run.list.Goals as goal

pub returns : goal.returns
returns c =
    let file = c.args.file.now in
    let e = c.lent_places-places.ensures in
    let long = length_part c.lent_places-places.result 1024 (places_fit file e) in
    let so = listing_lent file _ e long long long c.list_run.ensures in
    record { out_after = so.0; value = so.1; upper_bound = omega (arith, so.1, short_listing file); enough = λ whole part. ap listing part ∙ read_enough whole }
