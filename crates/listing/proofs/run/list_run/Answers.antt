use Rattle.std.proofs.Common.{ap, sym, ◌∙◌}
use Rattle.model.specs.Run.{fault}
use Rattle.model.specs.declared.Checked.{Checked}
use Rattle.model.proofs.Readings.{number_some}
use Rattle.listing.proofs.Lent.{refused_run, accepted_listing}
use Rattle.listing.proofs.run.list_run.Goals as goal

pub returns-in-Err : goal.returns-in-Err
returns-in-Err g c =
    let found = c.in-Err.ensures in
    let made = c.from.ensures in
    let refusal = ap (λ (x : Checked). x.refusal) made in
    let fault_is = ap (λ (x : Checked). x.fault) made in
    refused_run _ _ _ c.new-header.ensures (refusal ∙ found.refusal_value)
    (fault_is ∙ found.fault_value ∙ ap (fault c.args.file.now) (sym refusal))
    (λ z. number_some c.in-Err.r.refusal (sym refusal ∙ z)) (c.write_refused_line.ensures.out_after, c.write_refused_line.ensures.value)

pub returns : goal.returns
returns g c = accepted_listing _ _ _ c.new-header.ensures c.list_commands.ensures
