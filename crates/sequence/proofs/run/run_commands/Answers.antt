use mathlib.Core.Path.{◌∙◌}
use Rattle.sequence.proofs.Running.{going_starts, going_on, going_counted, going_ends}
use Rattle.sequence.proofs.run.run_commands.Goals as goal

pub loop-q-init : goal.loop-q-init
loop-q-init g c = going_starts g.met.J.Journal.laws c.requires c.new-tally.ensures

pub loop-q-preserved : goal.loop-q-preserved
loop-q-preserved g c =
    let low = rw c.command_count-n.ensures at c.loop-q-test.true in
    let is = c.command_at-c.ensures in
    let raised = c.count.ensures ∙ going_counted _ c.requires low is c.loop-q.invariant in
    going_on g.met.J.Journal.laws c.requires low is c.perform_command-answer.ensures raised c.loop-q.invariant

pub returns : goal.returns
returns g c =
    let high = rw c.command_count-n.ensures at c.loop-q-test.false in
    going_ends c.requires high c.loop-q.invariant
