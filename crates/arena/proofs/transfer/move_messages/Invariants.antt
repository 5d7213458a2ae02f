use Prim.Native.Nat.{◌-◌}
use Rattle.model.specs.Store.{tables, store}
use Rattle.arena.proofs.Transferring.{Moving}
use Rattle.arena.proofs.transfer.move_messages.Given as goal

abbrev pub invariant-loop-p : goal.invariant-loop-p
invariant-loop-p l = Moving (tables l.initial.dgens l.initial.dlinks l.initial.dvalues) (store (tables l.initial.sgens l.initial.slinks l.initial.svalues) l.initial.s) l.generation l.m (tables l.dgens l.dlinks l.dvalues)
    (store (tables l.sgens l.slinks l.svalues) l.s) l.n (l.p - 1)
