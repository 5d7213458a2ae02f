use Rattle.arena.proofs.Popping.{popping_goes_on}
use Rattle.arena.proofs.compress.pop_above.Goals as goal

pub loop-p-preserved : goal.loop-p-preserved
loop-p-preserved c = popping_goes_on c.loop-p-test.true c.pop.ensures c.loop-p.invariant
