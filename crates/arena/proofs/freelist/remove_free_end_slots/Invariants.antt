use mathlib.Core.Path.{◌≡◌}
use Rattle.model.specs.Freelist.{trimmed}
use Rattle.arena.proofs.freelist.remove_free_end_slots.Given as goal

abbrev pub invariant-loop-n : goal.invariant-loop-n
invariant-loop-n l = trimmed l.generations l.n l.links l.values ≡ trimmed l.generations l.m l.initial.links l.initial.values
