-- The words of a table's places, read and written. A list has the word of place p at index p - 1.
-- Assumes nothing.
use Prim.Native.Nat.{ℕ, zero, suc, ◌+◌, ◌-◌, ◌≤◌, ◌<◌, min}
use mathlib.Core.Path.{◌≡◌, refl, ap, ◌∙◌}
use mathlib.Core.List.{List}
use native.Mathlib.Numerals.{add-one, sub-one}
use native.Mathlib.Omega.{arith}
use native.Mathlib.Decide.{ℕ_discrete}
use lib.ListN.{length, get_or, set, length-set, get_or-eq_default}
use lib.Seq.{set_out, get_or-set_same, get_or-set_other}
use Rattle.model.specs.Store.{at, write, zeroed_to}

-- place 0 reads as 0
pub at_zero : (l : List ℕ) (p : ℕ) → p ≡ 0 → at l p ≡ 0
unfolding at
at_zero l p e = rw e

-- any other place is at the index one below
pub at_place : (l : List ℕ) (p : ℕ) → (p ≡ 0 → ⊥) → at l p ≡ get_or l (p - 1) 0
unfolding at
at_place l zero h = absurd (h refl)
at_place l (suc n) h = rw sub-one

-- a place above the table reads as 0, and a write there changes nothing
pub at_outside : (l : List ℕ) (p : ℕ) → length l < p → at l p ≡ 0
unfolding at
at_outside l zero h = refl
at_outside l (suc n) h = get_or-eq_default l 0 (omega arith)

pub write_outside : (l : List ℕ) (p x : ℕ) → length l < p → write l p x ≡ l
unfolding write
write_outside l zero x h = refl
write_outside l (suc n) x h = set_out l n x (omega arith)

-- a write keeps the table's length
pub length_write : (l : List ℕ) (p x : ℕ) → length (write l p x) ≡ length l
unfolding write
length_write l zero x = refl
length_write l (suc n) x = length-set l n x

-- what was written is read at its place, and every other place is as it was
pub at_write_same : (l : List ℕ) (p x : ℕ) → (p ≡ 0 → ⊥) → p ≤ length l → at (write l p x) p ≡ x
unfolding at write
at_write_same l zero x h q = absurd (h refl)
at_write_same l (suc n) x h q = get_or-set_same l n x 0 (omega arith)

pub at_write_other : (l : List ℕ) (p q x : ℕ) → (q ≡ p → ⊥) → at (write l p x) q ≡ at l q
unfolding at write
at_write_other l zero q x h = refl
at_write_other l (suc n) zero x h = refl
at_write_other l (suc n) (suc k) x h = get_or-set_other l n k x 0 (λ e. h (ap suc e))

-- zeroing is a write of 0 at each place in turn
pub zeroed_to_next : (n : ℕ) (l : List ℕ) → zeroed_to (n + 1) l ≡ set (zeroed_to n l) n 0
unfolding zeroed_to write
zeroed_to_next n l = rw add-one

pub length_zeroed_to : (n : ℕ) (l : List ℕ) → length (zeroed_to n l) ≡ length l
unfolding zeroed_to
length_zeroed_to zero l = refl
length_zeroed_to (suc n) l = length_write (zeroed_to n l) (suc n) 0 ∙ length_zeroed_to n l

-- there is nothing to zero above the table
pub zeroed_to_outside : (n : ℕ) (l : List ℕ) → length l ≤ n → zeroed_to (suc n) l ≡ zeroed_to n l
unfolding zeroed_to
zeroed_to_outside n l h = write_outside (zeroed_to n l) (suc n) 0 (rw length_zeroed_to (omega arith))

pub zeroed_to_within : (n : ℕ) (l : List ℕ) → zeroed_to n l ≡ zeroed_to (min n (length l)) l
zeroed_to_within zero l = ap (λ (k : ℕ). zeroed_to k l) (omega arith)
zeroed_to_within (suc n) l =
    elim (ℕ_discrete (min (suc n) (length l)) (suc n)) [
      | yes e ↦ rw e
      | no h ↦
          zeroed_to_outside n l (omega arith) ∙ zeroed_to_within n l
          ∙ ap (λ (k : ℕ). zeroed_to k l) (omega arith)
    ]
