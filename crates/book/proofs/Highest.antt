-- The highest place of a book's lines is the last place of its store's stack, where that ends at a live place or is
-- empty. Assumes nothing.
use Prim.Native.Nat.{ℕ, ◌≤◌}
use mathlib.Core.Path.{◌≡◌, refl, ap}
use mathlib.Core.List.Memᴰ
use mathlib.Core.List.{List, [], ◌∷◌, Memᴰ}
use mathlib.Core.Logic.{inl, inr}
use native.Mathlib.Omega.{arith}
use native.Mathlib.Decide.{ℕ_discrete}
use lib.Dec.{leb}
use borrow.Author.Tests.{leb-true, leb-false}
use Rattle.std.proofs.lemmas.Bool.{cond_both}
use Rattle.model.specs.Store.{Store, at, marks}
use Rattle.book.specs.Book.{Line, highest}
use Rattle.book.proofs.Kept.{Tidy, Lines}
use Rattle.book.proofs.Lines.{taken_line}
use Rattle.book.proofs.Taken.{line_low}

-- It is no lower than the first line's place, nor than the highest of the others.
highest_more : (l : Line) (b : List Line) → (l.ptr.index ≤ highest (l ∷ b)) × (highest b ≤ highest (l ∷ b))
unfolding highest
highest_more l b =
    cond_both (leb l.ptr.index (highest b)) _ _ (λ (n : ℕ). (l.ptr.index ≤ n) × (highest b ≤ n))
    (λ t. (leb-true _ _ t, omega arith))
    (λ t. (omega arith, omega (arith, leb-false l.ptr.index (highest b) t)))

-- So no line's place is higher.
pub line_highest : (b : List Line) (l : Line) → Memᴰ l b → l.ptr.index ≤ highest b
line_highest [] l x = absurd (Memᴰ.not-nil x)
line_highest (k ∷ b) l x =
    let more = highest_more k b in
    elim (Memᴰ.cases_cons x) [
      | inl e ↦ omega (arith, more.0, ap (λ (j : Line). j.ptr.index) e)
      | inr y ↦ omega (arith, more.1, line_highest b l y)
    ]

-- It is no higher than a place that no line's is above.
pub highest_low : (b : List Line) (n : ℕ) → ((l : Line) → Memᴰ l b → l.ptr.index ≤ n) → highest b ≤ n
unfolding highest
highest_low [] n h = omega arith
highest_low (l ∷ b) n h =
    cond_both (leb l.ptr.index (highest b)) _ _ (λ (p : ℕ). p ≤ n)
    (λ t. highest_low b n (λ k x. h k (Memᴰ.tail x)))
    (λ t. h l (Memᴰ.head refl))

-- It is the stack's last place.
pub highest_m : (C : ℕ) (s : Store) (b : List Line) → Tidy C s → Lines s b
    → ((s.header.m ≡ 0 → ⊥) → at (marks s) s.header.m ≡ 0 → ⊥) → highest b ≡ s.header.m
highest_m C s b t h last =
    let low = highest_low b s.header.m (λ l x. line_low C s b l t h x) in
    elim (ℕ_discrete s.header.m 0) [
      | yes e ↦ omega arith
      | no d ↦
          let r = taken_line b s.header.m (h.all s.header.m (last d)) in
          omega (arith, r.2, line_highest b r.0 r.1)
    ]
