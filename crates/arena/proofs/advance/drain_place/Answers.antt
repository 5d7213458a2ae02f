use mathlib.Core.Path.{sym, ◌∙◌}
use Rattle.arena.proofs.Draining.{drained_message}
use Rattle.arena.proofs.advance.drain_place.Goals as goal

pub returns-in-Some : goal.returns-in-Some
returns-in-Some c = λ q e. drained_message _ _ _ q (sym c.in-Some.is ∙ e) c.remove_internal-removal.ensures
