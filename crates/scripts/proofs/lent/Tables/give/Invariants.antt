-- The words of the first k places are given, and what is left of the numbers are those of the others.
use Rattle.std.proofs.Common.{◌≡◌, ◌*◌, drop}
use Rattle.scripts.specs.Words.{given}
use Rattle.scripts.proofs.lent.Tables.give.Given as goal

abbrev pub invariant-loop-k : goal.invariant-loop-k
invariant-loop-k l =
    (l.rest ≡ drop (3 * l.k) l.numbers)
    × (l.self.generations.words.items ≡ given (λ p. p.generation) l.numbers l.k l.initial.self.generations.words.items)
    × (l.self.links.words.items ≡ given (λ p. p.link) l.numbers l.k l.initial.self.links.words.items)
    × (l.self.values.words.items ≡ given (λ p. p.value) l.numbers l.k l.initial.self.values.words.items)
    × (l.self.generations.length ≡ l.initial.self.generations.length)
    × (l.self.links.length ≡ l.initial.self.links.length)
    × (l.self.values.length ≡ l.initial.self.values.length)
