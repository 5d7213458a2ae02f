use mathlib.Core.Path.{◌∙◌}
use native.Mathlib.Omega.{arith}
use Rattle.sequence.proofs.Starting.{countable}
use Rattle.sequence.proofs.Running.{going_starts, going_on, going_counted}
use Rattle.listing.proofs.Lines.{listing_starts, listing_on, listing_ends}
use Rattle.listing.proofs.Short.{few_bytes, line_bytes, sum_bytes}
use Rattle.listing.proofs.run.list_commands.Goals as goal

pub loop-q-init : goal.loop-q-init
loop-q-init g c = (going_starts g.met.J.Journal.laws c.requires c.new-tally.ensures, listing_starts _ _ _ _)

pub overflow_add-at : goal.overflow_add-at
overflow_add-at g c =
    let few = few_bytes _ _ _ c.loop-q.invariant.1 in
    let line = line_bytes _ _ _ c.add_command_line-at.ensures.value in
    omega (arith, (countable _ _ _ c.requires).commands, c.loop-q-test.true, c.command_count-n.ensures)

pub loop-q-preserved : goal.loop-q-preserved
loop-q-preserved g c =
    let laws = g.met.J.Journal.laws in
    let accepted = c.requires in
    let low = rw c.command_count-n.ensures at c.loop-q-test.true in
    let command = c.command_at-c.ensures in
    let done = c.perform_command-answer.ensures in
    let so = c.loop-q.invariant in
    let raised = c.count.ensures ∙ going_counted _ accepted low command so.0 in (
      going_on laws accepted low command done raised so.0,
      listing_on laws accepted low command done (c.add_command_line-at.ensures.out_after, c.add_command_line-at.ensures.value) so.0 so.1,
    )

pub overflow_add-result : goal.overflow_add-result
overflow_add-result g c =
    let so = c.loop-q.invariant in
    let few = few_bytes _ _ _ so.1 in
    let sum = sum_bytes _ c.add_sum_line.ensures.value in
    omega (arith, (countable _ _ _ c.requires).commands, so.0.within)

pub returns : goal.returns
returns g c =
    let high = rw c.command_count-n.ensures at c.loop-q-test.false in
    let so = c.loop-q.invariant in
    listing_ends c.requires high (c.add_sum_line.ensures.out_after, c.add_sum_line.ensures.value) so.0 so.1
