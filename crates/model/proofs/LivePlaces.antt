-- The live places of a stack are exactly the places up to its end whose mark is not 0, each once, ascending. Assumes
-- nothing.
use Prim.Native.Nat.{ℕ, zero, suc, ◌≤◌, ◌<◌}
use mathlib.Core.Path.{◌≡◌, sym, subst}
use mathlib.Core.List.Memᴰ
use mathlib.Core.List.{List, Memᴰ, Pairwise, Pairwise-singleton, Pairwise-append}
use mathlib.Core.Logic.{inl, inr, ∥∥₁_elim}
use native.Mathlib.Bridge.{le_prop}
use native.Mathlib.Omega.{arith}
use native.Mathlib.Decide.{ℕ_discrete}
use borrow.Author.Tests.{eqb-true, eqb-false}
use Rattle.std.proofs.lemmas.Bool.{cond_both}
use Rattle.model.specs.Store.{at}
use Rattle.model.specs.Freelist.{free, live_places}
use Rattle.model.proofs.Places.{at_zero}
use Rattle.model.proofs.Above.{live_places_low}

-- A place among them is live.
pub places_live : (k : List ℕ) (n p : ℕ) → Memᴰ p (live_places k n) → at k p ≡ 0 → ⊥
unfolding live_places
places_live k zero p x = absurd (Memᴰ.not-nil x)
places_live k (suc n) p x =
    elim (Memᴰ.append_cases (live_places k n) x) [
      | inl y ↦ places_live k n p y
      | inr y ↦
          cond_both (free k (suc n)) _ _ (λ (ps : List ℕ). Memᴰ p ps → at k p ≡ 0 → ⊥)
          (λ e z. absurd (Memᴰ.not-nil z))
          (λ e z. subst (λ (q : ℕ). at k q ≡ 0 → ⊥) (sym (Memᴰ.eq_of_singleton z)) (eqb-false _ _ e))
          y
    ]

-- A live place of the stack is among them.
pub places_all : (k : List ℕ) (n p : ℕ) → p ≤ n → (at k p ≡ 0 → ⊥) → Memᴰ p (live_places k n)
unfolding live_places
places_all k zero p h live = absurd (live (at_zero k p (omega arith)))
places_all k (suc n) p h live =
    elim (ℕ_discrete p (suc n)) [
      | no d ↦ Memᴰ.append_left _ (places_all k n p (omega arith) live)
      | yes s ↦
          Memᴰ.append_right (live_places k n)
          (cond_both (free k (suc n)) _ _ (λ (ps : List ℕ). Memᴰ p ps)
          (λ e. absurd (live (rw s (eqb-true _ _ e))))
          (λ e. Memᴰ.head s))
    ]

-- Each is higher than those before it.
pub places_ascend : (k : List ℕ) (n : ℕ) → Pairwise (λ (a b : ℕ). a < b) (live_places k n)
unfolding live_places
places_ascend k zero = Pairwise.nil
places_ascend k (suc n) =
    (Pairwise-append (λ a b. le_prop)).1 (
      places_ascend k n,
      cond_both (free k (suc n)) _ _ (λ (ps : List ℕ). Pairwise (λ (a b : ℕ). a < b) ps)
          (λ e. Pairwise.nil) (λ e. Pairwise-singleton (λ (a b : ℕ). a < b) (suc n)),
      λ a x b y.
          ∥∥₁_elim x le_prop
          (λ c.
          ∥∥₁_elim y le_prop
          (cond_both (free k (suc n)) _ _ (λ (ps : List ℕ). Memᴰ b ps → a < b)
          (λ e z. absurd (Memᴰ.not-nil z))
          (λ e z. omega (arith, live_places_low k n a c, Memᴰ.eq_of_singleton z)))),
    )
