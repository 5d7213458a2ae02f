use Rattle.arena.proofs.Walking.{Walking}
use Rattle.arena.proofs.audit.walk_chain.Given as goal

abbrev pub invariant-loop-met : goal.invariant-loop-met
invariant-loop-met l = Walking l.generations l.links l.m l.root l.here l.met
