-- What is laid into the first places of a table, word by word: so a stack of messages alone, as compress and transfer
-- leave it, is shaped. Assumes nothing.
use Prim.Native.Nat.{ℕ, zero, suc, ◌-◌, ◌≤◌}
use mathlib.Core.Path.{◌≡◌, refl, ap, ◌∙◌}
use mathlib.Core.List.{List}
use native.Mathlib.Omega.{arith}
use native.Mathlib.Decide.{ℕ_discrete}
use lib.ListN.{length, get_or, replicate, length-replicate, get_or-replicate}
use lib.Seq.{sets}
use Rattle.model.specs.Store.{at, zeroed_to}
use Rattle.model.proofs.Laying.{sets_in}
use Rattle.model.proofs.Places.{at_zero, at_place, at_write_other}
use Rattle.model.proofs.Words.{at_write_none}

-- The places that are zeroed read 0.
pub at_zeroed : (n : ℕ) (l : List ℕ) (p : ℕ) → p ≤ n → at (zeroed_to n l) p ≡ 0
unfolding zeroed_to
at_zeroed zero l p h = at_zero l p (omega arith)
at_zeroed (suc n) l p h =
    elim (ℕ_discrete p (suc n)) [
      | yes e ↦ rw e (at_write_none (zeroed_to n l) (suc n))
      | no d ↦ at_write_other (zeroed_to n l) (suc n) p 0 d ∙ at_zeroed n l p (omega arith)
    ]

-- Words laid from place 1 on are read there.
pub at_laid : (l xs : List ℕ) (p : ℕ) → length xs ≤ length l → p ≤ length xs → at (sets l 0 xs) p ≡ at xs p
unfolding at
at_laid l xs zero h q = refl
at_laid l xs (suc i) h q = ap (λ (j : ℕ). get_or (sets l 0 xs) j 0) (omega arith) ∙ sets_in l 0 xs i 0 (omega arith) (omega arith)

-- So n equal words are read as such.
pub at_equal : (l : List ℕ) (n x p : ℕ) → n ≤ length l → (p ≡ 0 → ⊥) → p ≤ n → at (sets l 0 (replicate n x)) p ≡ x
at_equal l n x p h some q =
    let e = length-replicate n x in
    at_laid l (replicate n x) p (omega arith) (omega arith) ∙ at_place (replicate n x) p some ∙ get_or-replicate n (p - 1) x 0 (omega arith)
