use mathlib.Core.Path.{sym}
use Rattle.model.proofs.Refusals.{within_limit, insert_reallocating_fits}
use Rattle.arena.proofs.insert.insert_reallocating.Goals as goal

pub insert-requires : goal.insert-requires
insert-requires c = within_limit (insert_reallocating_fits _ (sym c.in_ok-insert_reallocating_refusal.ensures))
