use Prim.Native.Nat.{◌+◌, ◌-◌, ◌≤◌}
use mathlib.Core.Path.{◌≡◌}
use Rattle.model.specs.Freelist.{live_count}
use Rattle.arena.proofs.freelist.live_count.Given as goal

abbrev pub invariant-loop-p : goal.invariant-loop-p
invariant-loop-p l = (l.p ≤ l.m + 1) × (l.n ≡ live_count l.generations (l.p - 1))
