use Prim.Native.Nat.{◌-◌}
use Rattle.model.specs.Store.{tables}
use Rattle.arena.proofs.Copying.{Copying}
use Rattle.arena.proofs.clone.copy_places.Given as goal

abbrev pub invariant-loop-p : goal.invariant-loop-p
invariant-loop-p l = Copying l.sgens l.svalues l.top (tables l.initial.dgens l.initial.dlinks l.initial.dvalues) (tables l.dgens l.dlinks l.dvalues) (l.p - 1)
