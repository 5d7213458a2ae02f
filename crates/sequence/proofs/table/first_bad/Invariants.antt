-- The commands that are looked at are good.
use Rattle.std.proofs.Common.{◌≡◌}
use Rattle.model.specs.Refusals.{first_bad}
use Rattle.sequence.proofs.table.first_bad.Given as goal

abbrev pub invariant-loop-i : goal.invariant-loop-i
invariant-loop-i l = first_bad l.file l.i ≡ 0
