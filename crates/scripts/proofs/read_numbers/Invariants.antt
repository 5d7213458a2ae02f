-- With the numbers of the rest of the text, the numbers so far are the line's, and they are no more than are wanted.
use Rattle.std.proofs.Common.{◌≡◌, ◌≤◌, ◌++◌, drop, length, None}
use Rattle.scripts.specs.Numbers.{read_from}
use Rattle.scripts.proofs.read_numbers.Given as goal

abbrev pub invariant-loop-b : goal.invariant-loop-b
invariant-loop-b l =
    (l.all.items ++ read_from l.number (drop l.b-index l.text) ≡ read_from None l.text) × (length l.all.items ≤ l.most)
