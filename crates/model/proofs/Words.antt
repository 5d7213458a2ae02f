-- Tables by their words: they are the same where all their words are, and a place where 0 is written reads as 0.
-- Assumes nothing.
use Prim.Native.Nat.{ℕ, suc}
use mathlib.Core.Path.{◌≡◌, sym, ◌∙◌}
use mathlib.Core.List.{List}
use native.Mathlib.Omega.{arith}
use native.Mathlib.Decide.{ℕ_discrete, dec_le}
use lib.ListN.{length}
use lib.Seq.{ext_get_or}
use Rattle.model.specs.Store.{at, write}
use Rattle.model.proofs.Agree.{written_same}
use Rattle.model.proofs.Places.{at_zero, at_outside, at_write_same, at_write_other, length_write}

-- Tables of one length with the same words.
pub same_words : (l l' : List ℕ) → length l ≡ length l' → ((p : ℕ) → (p ≡ 0 → ⊥) → at l p ≡ at l' p) → l ≡ l'
unfolding at
same_words l l' e h = ext_get_or 0 l l' e (λ i q. h (suc i) (λ z. omega arith))

-- Also where there is no such place.
pub at_write_none : (l : List ℕ) (p : ℕ) → at (write l p 0) p ≡ 0
at_write_none l p =
    elim (ℕ_discrete p 0) [
      | yes e ↦ at_zero _ p e
      | no h ↦
          elim (dec_le p (length l)) [
            | yes q ↦ at_write_same l p 0 h q
            | no q ↦ at_outside _ p (omega (arith, length_write l p 0))
          ]
    ]

-- The same is written into both tables: they have the same word at a place if they had it, or it is the place written.
pub same_write : (l l' : List ℕ) (i x p : ℕ) → length l ≡ length l' → ((p ≡ i → ⊥) → at l p ≡ at l' p)
    → at (write l i x) p ≡ at (write l' i x) p
same_write l l' i x p e h =
    elim (ℕ_discrete p i) [
      | yes s ↦ rw s (written_same l l' i x e)
      | no d ↦ at_write_other l i p x d ∙ h d ∙ sym (at_write_other l' i p x d)
    ]
