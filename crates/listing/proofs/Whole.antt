-- What is written from a buffer's start on is the buffer's first part, where there is room for it. Assumes nothing.
use Prim.Native.Nat.{ℕ, ◌+◌, ◌≤◌}
use mathlib.Core.Path.{◌≡◌, ap, sym, ◌∙◌}
use mathlib.Core.List.{List, ◌++◌}
use native.Mathlib.Omega.{arith}
use lib.ListN.{length, take, drop}
use lib.Seq.{sets, length-sets}
use Rattle.std.proofs.lemmas.List.Edits.{sets-eq}
use Rattle.std.proofs.Math.Seq.{take-append_seam}

-- The buffer l of k entries, with whatever comes after it.
pub written_whole : (l xs rest : List ℕ) (k n : ℕ) → length l ≡ k → n ≡ length xs → n ≤ k → take n (take k (sets l 0 xs ++ rest)) ≡ xs
written_whole l xs rest k n long e room =
    let all : take k (sets l 0 xs ++ rest) ≡ sets l 0 xs =
    ap (λ (i : ℕ). take i (sets l 0 xs ++ rest)) (sym long ∙ sym (length-sets l 0 xs)) ∙ take-append_seam (sets l 0 xs) rest in
    ap (take n) all
    ∙ ap (take n) (sets-eq xs l 0 (omega arith))
    ∙ ap (λ (i : ℕ). take i (xs ++ drop (0 + length xs) l)) e
    ∙ take-append_seam xs (drop (0 + length xs) l)
