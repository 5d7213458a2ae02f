use Rattle.model.specs.Store.{tables}
use Rattle.arena.proofs.MovingDown.{Moving}
use Rattle.arena.proofs.compress.move_down.Given as goal

abbrev pub invariant-loop-i : goal.invariant-loop-i
invariant-loop-i l = Moving (tables l.initial.generations l.initial.links l.initial.values) l.m l.generation (tables l.generations l.links l.values) l.n l.i
