-- Laws of the handles given out so far: what a later generation, or the same one, keeps of them, and handles that are
-- added. Assumes nothing.
use Prim.Native.Nat.{ℕ, ◌≤◌, ◌<◌}
use mathlib.Core.Path.{◌≡◌, sym, ◌∙◌}
use mathlib.Core.List.Memᴰ
use mathlib.Core.List.{List, [], ◌∷◌, ◌++◌, Memᴰ, Nodup, Pairwise-singleton, Nodup-append}
use mathlib.Core.Logic.{inl, inr, ∥∥₁_elim}
use mathlib.Core.HLevel.{⊥_prop}
use native.Mathlib.Omega.{arith}
use Rattle.model.specs.Store.{Store, at, marks}
use Rattle.model.specs.declared.Ptr.{Ptr}
use Rattle.book.proofs.Kept.{Given}

-- In a later generation none of them is of the current one.
pub given_later : (s u : Store) (ps : List Ptr) → Given s ps → s.header.generation < u.header.generation → Given u ps
given_later s u ps g later =
    record {
      once = g.once;
      low = λ p x. omega (arith, g.low p x);
      live = λ p x e. absurd (omega (arith, g.low p x));
    }

-- In the same generation the places that it marks are to stay so.
pub given_same : (s u : Store) (ps : List Ptr) → Given s ps → u.header.generation ≡ s.header.generation
    → ((p : ℕ) → at (marks s) p ≡ s.header.generation → at (marks u) p ≡ s.header.generation) → Given u ps
given_same s u ps g same stay =
    record {
      once = g.once;
      low = λ p x. omega (arith, g.low p x);
      live = λ p x e. let now = e ∙ same in stay p.index (g.live p x now ∙ now) ∙ sym now;
    }

-- A handle that is live is given, if it was not before; likewise any list of them.
pub given_one : (s : Store) (q : Ptr) → q.generation ≤ s.header.generation → at (marks s) q.index ≡ q.generation → Given s (q ∷ [])
given_one s q low live =
    record {
      once = Pairwise-singleton (λ (a b : Ptr). a ≡ b → ⊥) q;
      low = λ p x. rw (Memᴰ.eq_of_singleton x) low;
      live = λ p x e. rw (Memᴰ.eq_of_singleton x) live;
    }

pub given_more : (s : Store) (ps qs : List Ptr) → Given s ps → Given s qs → ((p : Ptr) → Memᴰ p ps → Memᴰ p qs → ⊥)
    → Given s (ps ++ qs)
given_more s ps qs g h apart =
    record {
      once =
          Nodup-append.1
          (g.once, h.once, λ p x y. ∥∥₁_elim x ⊥_prop (λ a. ∥∥₁_elim y ⊥_prop (apart p a)));
      low = λ p x.
          elim (Memᴰ.append_cases ps x) [
            | inl a ↦ g.low p a
            | inr b ↦ h.low p b
          ];
      live = λ p x.
          elim (Memᴰ.append_cases ps x) [
            | inl a ↦ g.live p a
            | inr b ↦ h.live p b
          ];
    }

-- Handles of a later generation, each live and no two the same.
pub given_added : (s u : Store) (ps qs : List Ptr) → Given s ps → s.header.generation < u.header.generation → Nodup qs
    → ((q : Ptr) → Memᴰ q qs → q.generation ≡ u.header.generation)
    → ((q : Ptr) → Memᴰ q qs → at (marks u) q.index ≡ q.generation) → Given u (ps ++ qs)
given_added s u ps qs g later once current live =
    given_more u ps qs (given_later s u ps g later)
    (record { once = once; low = λ q y. omega (arith, current q y); live = λ q y e. live q y })
    (λ q x y. omega (arith, g.low q x, current q y))

-- A handle of the current generation whose place is not of that generation was not given.
pub not_given : (s : Store) (ps : List Ptr) (q : Ptr) → Given s ps → q.generation ≡ s.header.generation
    → (at (marks s) q.index ≡ q.generation → ⊥) → Memᴰ q ps → ⊥
not_given s ps q g now other x = other (g.live q x now)
