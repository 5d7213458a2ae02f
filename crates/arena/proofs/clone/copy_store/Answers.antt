use mathlib.Core.Path.{◌∙◌}
use Rattle.arena.proofs.Copying.{copy_ordered}
use Rattle.arena.proofs.clone.copy_store.Goals as goal

pub returns : goal.returns
returns c =
    λ l. c.order_store.ensures ∙ copy_ordered _ _ c.requires c.top-last.ensures c.zero_stack.ensures c.copy_places.ensures
