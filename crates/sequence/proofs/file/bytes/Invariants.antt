-- The bytes before the next one are read.
use Rattle.std.proofs.Common.{◌≡◌, ℕ, ◌+◌, ◌<◌, length, get_or}
use Rattle.model.specs.Sequence.{field}
use Rattle.sequence.proofs.file.bytes.Given as goal

abbrev pub invariant-loop-i : goal.invariant-loop-i
invariant-loop-i g l = (length l.bytes ≡ g.row.N) × ((k : ℕ) → k < l.i → get_or l.bytes k 0 ≡ field l.part (l.start + k) 1)
