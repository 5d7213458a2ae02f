use mathlib.Core.Path.{sym}
use Rattle.model.proofs.Refusals.{within_limit, insert_fits}
use Rattle.arena.proofs.insert.insert_within_capacity.Goals as goal

pub insert-requires : goal.insert-requires
insert-requires c = within_limit (insert_fits _ (sym c.in_ok-insert_refusal.ensures))
