-- A trimmed stack, word by word: it ends at the last live place, the places popped read 0, and no other word is
-- changed. Assumes nothing.
use Prim.Native.Nat.{ℕ, zero, suc, ◌≤◌, ◌<◌}
use mathlib.Core.Path.{◌≡◌, refl, sym, ◌∙◌}
use mathlib.Core.List.{List}
use mathlib.Core.Logic.{◌⊎◌, inl, inr}
use native.Mathlib.Omega.{arith}
use native.Mathlib.Decide.{ℕ_discrete, dec_le}
use Rattle.model.specs.Store.{at, write}
use Rattle.model.specs.Freelist.{Trimmed, trim, trimmed, free, last_live}
use Rattle.model.proofs.Tests.{tests, chosen_alike}
use Rattle.model.proofs.Places.{at_write_other}
use Rattle.model.proofs.Agree.{last_live_low}
use Rattle.model.proofs.Words.{at_write_none}

-- The words of one place in the tables of a trimmed stack.
abbrev LinkAndValue : Trimmed → ℕ → ℕ → ℕ → Type 0
LinkAndValue t p x y = (at t.links p ≡ x) × (at t.values p ≡ y)

-- It ends at the last live place.
pub trimmed_m : (k : List ℕ) (n : ℕ) (l v : List ℕ) → (trimmed k n l v).m ≡ last_live k n
unfolding trimmed last_live
trimmed_m k zero l v = refl
trimmed_m k (suc n) l v =
    chosen_alike (λ (t : Trimmed) (p : ℕ). t.m ≡ p) (free k (suc n)) (free k (suc n)) refl (λ e. trimmed_m k n _ _) (λ e. refl)

-- A stack that ends at a live place, or is empty, has nothing to be popped.
pub trimmed_live : (k : List ℕ) (n : ℕ) (l v : List ℕ) → ((n ≡ 0 → ⊥) → at k n ≡ 0 → ⊥) → trimmed k n l v ≡ trim n l v
unfolding trimmed
trimmed_live k zero l v h = refl
trimmed_live k (suc n) l v h = let live = h (λ e. omega arith) in simp tests

-- A place that is not popped: it is above the stack, or no higher than the last live place.
pub trimmed_kept : (k : List ℕ) (n : ℕ) (l v : List ℕ) (p : ℕ) → (p ≤ n → p ≤ last_live k n)
    → (at (trimmed k n l v).links p ≡ at l p) × (at (trimmed k n l v).values p ≡ at v p)
unfolding trimmed last_live
trimmed_kept k zero l v p = λ h. (refl, refl)
trimmed_kept k (suc n) l v p =
    chosen_alike (λ (t : Trimmed) (q : ℕ). (p ≤ suc n → p ≤ q) → LinkAndValue t p (at l p) (at v p)) (free k (suc n)) (free k (suc n)) refl
    (λ e h.
    let other : p ≡ suc n → ⊥ = λ s. omega (arith, h (omega arith), last_live_low k n) in
    let s = trimmed_kept k n (write l (suc n) 0) (write v (suc n) 0) p (λ q. h (omega arith)) in
    (s.0 ∙ at_write_other l (suc n) p 0 other, s.1 ∙ at_write_other v (suc n) p 0 other))
    (λ e h. (refl, refl))

-- A place that is popped.
pub trimmed_popped : (k : List ℕ) (n : ℕ) (l v : List ℕ) (p : ℕ) → last_live k n < p → p ≤ n
    → (at (trimmed k n l v).links p ≡ 0) × (at (trimmed k n l v).values p ≡ 0)
unfolding trimmed last_live
trimmed_popped k zero l v p = λ h q. absurd (omega arith)
trimmed_popped k (suc n) l v p =
    chosen_alike (λ (t : Trimmed) (q : ℕ). q < p → p ≤ suc n → LinkAndValue t p 0 0) (free k (suc n)) (free k (suc n)) refl
    (λ e h q.
    elim (ℕ_discrete p (suc n)) [
      | yes s ↦
          let c = trimmed_kept k n (write l (suc n) 0) (write v (suc n) 0) p (λ z. absurd (omega arith)) in
          (c.0 ∙ rw s (at_write_none l (suc n)), c.1 ∙ rw s (at_write_none v (suc n)))
      | no d ↦ trimmed_popped k n (write l (suc n) 0) (write v (suc n) 0) p h (omega arith)
    ])
    (λ e h q. absurd (omega arith))

-- A place is kept or popped.
kept_or_popped : (n q p : ℕ) → (p ≤ n → p ≤ q) ⊎ ((q < p) × (p ≤ n))
kept_or_popped n q p =
    elim (dec_le p n) [
      | no a ↦ inl (λ b. absurd (a b))
      | yes a ↦
          elim (dec_le p q) [
            | yes b ↦ inl (λ c. b)
            | no b ↦ inr (omega arith, a)
          ]
    ]

-- So two stacks of the same marks have the same link at a place when trimmed, if they had it or the place is popped;
-- likewise a value.
pub trimmed_link : (k : List ℕ) (n : ℕ) (l v l' v' : List ℕ) (p : ℕ) → ((p ≤ n → p ≤ last_live k n) → at l p ≡ at l' p)
    → at (trimmed k n l v).links p ≡ at (trimmed k n l' v').links p
trimmed_link k n l v l' v' p h =
    elim (kept_or_popped n (last_live k n) p) [
      | inl c ↦ (trimmed_kept k n l v p c).0 ∙ h c ∙ sym (trimmed_kept k n l' v' p c).0
      | inr c ↦ (trimmed_popped k n l v p c.0 c.1).0 ∙ sym (trimmed_popped k n l' v' p c.0 c.1).0
    ]

pub trimmed_value : (k : List ℕ) (n : ℕ) (l v l' v' : List ℕ) (p : ℕ) → ((p ≤ n → p ≤ last_live k n) → at v p ≡ at v' p)
    → at (trimmed k n l v).values p ≡ at (trimmed k n l' v').values p
trimmed_value k n l v l' v' p h =
    elim (kept_or_popped n (last_live k n) p) [
      | inl c ↦ (trimmed_kept k n l v p c).1 ∙ h c ∙ sym (trimmed_kept k n l' v' p c).1
      | inr c ↦ (trimmed_popped k n l v p c.0 c.1).1 ∙ sym (trimmed_popped k n l' v' p c.0 c.1).1
    ]
