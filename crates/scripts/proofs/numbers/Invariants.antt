-- With the numbers of the rest of the text, the numbers so far are the line's.
use Rattle.std.proofs.Common.{◌≡◌, ◌++◌, drop, None}
use Rattle.scripts.specs.Numbers.{numbers_from}
use Rattle.scripts.proofs.numbers.Given as goal

abbrev pub invariant-loop-b : goal.invariant-loop-b
invariant-loop-b l = l.all.items ++ numbers_from l.number (drop l.b-index l.text) ≡ numbers_from None l.text
