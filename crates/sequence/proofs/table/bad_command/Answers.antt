-- The code is read in the part that the command is.
use Rattle.std.proofs.Common.{◌∙◌}
use Rattle.model.specs.Sequence.{command_from}
use Rattle.sequence.proofs.CommandTable.{bad_named, bad_unknown}
use Rattle.sequence.proofs.table.bad_command.Goals as goal

pub returns-in-Ok : goal.returns-in-Ok
unfolding command_from
returns-in-Ok c =
    let own = bad_named (command_from c.args.part.now 0) c.in-Ok.code (c.in-Ok.ensures ∙ c.code_in.ensures) in
    c.exceeds.ensures ∙ rw c.most.ensures own

pub returns-in-Err : goal.returns-in-Err
unfolding command_from
returns-in-Err c =
    let e = c.in-Err.ensures in
    bad_unknown (command_from c.args.part.now 0) (rw c.code_in.ensures at e.1)
