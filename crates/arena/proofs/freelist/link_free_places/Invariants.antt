use mathlib.Core.Path.{◌≡◌}
use Rattle.model.specs.Freelist.{chained}
use Rattle.arena.proofs.freelist.link_free_places.Given as goal

abbrev pub invariant-loop-p : goal.invariant-loop-p
invariant-loop-p l = chained l.generations l.p l.links l.root ≡ chained l.generations l.m l.initial.links 0
