use Rattle.arena.proofs.Gathering.{moved_popped}
use Rattle.arena.proofs.compress.gather.Goals as goal

pub returns : goal.returns
returns c = rw c.of.ensures (moved_popped _ _ c.move_down-n.ensures c.pop_above.ensures)
