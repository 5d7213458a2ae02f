use Prim.Native.Nat.{◌+◌}
use mathlib.Core.Path.{◌≡◌}
use Rattle.model.specs.Calls.{sought}
use Rattle.arena.proofs.Moves.{moves_left}
use Rattle.arena.proofs.advance.sought.Given as goal

abbrev pub invariant-loop-c : goal.invariant-loop-c
invariant-loop-c l = sought (l.m + 1) l.generations l.m l.c ≡ sought (l.m + 1) l.generations l.m l.initial.c

abbrev pub decreases-loop-c : goal.decreases-loop-c
decreases-loop-c l = moves_left l.m l.c
