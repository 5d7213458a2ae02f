-- The part that starts at the command.
use Rattle.std.proofs.Common.{refl, ◌∙◌}
use Rattle.sequence.proofs.Fields.{command_part, command_whole}
use Rattle.sequence.proofs.file.command_at.Goals as goal

pub returns-then-file-start-lt16 : goal.returns-then-file-start-lt16
returns-then-file-start-lt16 c = c.command_in.ensures ∙ command_part _ _ _ c.command_start-start.ensures

pub returns : goal.returns
returns c = c.command_in-2.ensures ∙ command_whole _ _ _ _ c.command_start-start.ensures refl
