use Rattle.model.specs.Store.{tables}
use Rattle.arena.proofs.Popping.{Popping}
use Rattle.arena.proofs.compress.pop_above.Given as goal

abbrev pub invariant-loop-p : goal.invariant-loop-p
invariant-loop-p l = Popping (tables l.initial.generations l.initial.links l.initial.values) l.n l.m (tables l.generations l.links l.values) l.p
