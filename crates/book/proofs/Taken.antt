-- The places that the lines of a book take are exactly the live places of its store, and all of them are in the stack.
-- Assumes nothing.
use Prim.Native.Nat.{ℕ, ◌≤◌}
use mathlib.Core.Path.{◌≡◌, refl, ap, sym, ◌∙◌}
use mathlib.Core.List.Memᴰ
use mathlib.Core.List.{List, [], ◌∷◌, Memᴰ}
use mathlib.Core.Bool.{true, false, true≢false}
use native.Mathlib.Omega.{arith}
use native.Mathlib.Decide.{ℕ_discrete, dec_le}
use borrow.Author.Tests.{eqb-true}
use Rattle.std.proofs.lemmas.Bool.{and_parts}
use Rattle.model.specs.Store.{Store, at, marks}
use Rattle.model.specs.declared.Ptr.{Ptr}
use Rattle.model.proofs.Tests.{tests}
use Rattle.book.specs.Book.{Line, taken, has_ptr}
use Rattle.book.proofs.Kept.{Tidy, Lines, LiveLine}
use Rattle.book.proofs.Lines.{not_taken}

-- A line's place is live.
pub line_live : (s : Store) (b : List Line) (l : Line) → Lines s b → Memᴰ l b → at (marks s) l.ptr.index ≡ 0 → ⊥
line_live s b l h x z = let a = h.live l x in a.some (sym a.generation ∙ z)

-- A free place is not taken.
pub free_untaken : (s : Store) (b : List Line) (p : ℕ) → Lines s b → at (marks s) p ≡ 0 → taken b p ≡ false
free_untaken s b p h z = not_taken b p (λ l x e. line_live s b l h x (ap (at (marks s)) e ∙ z))

-- A place that is not taken is free.
pub untaken_free : (s : Store) (b : List Line) (p : ℕ) → Lines s b → taken b p ≡ false → at (marks s) p ≡ 0
untaken_free s b p h e =
    elim (ℕ_discrete (at (marks s) p) 0) [
      | yes z ↦ z
      | no d ↦ absurd (true≢false (sym (h.all p d) ∙ e))
    ]

-- A live place is in the stack, and so is a line's.
pub live_low : (C : ℕ) (s : Store) (p : ℕ) → Tidy C s → (at (marks s) p ≡ 0 → ⊥) → p ≤ s.header.m
live_low C s p t live =
    elim (dec_le p s.header.m) [
      | yes q ↦ q
      | no q ↦ absurd (live (t.above_free p (omega arith)))
    ]

pub line_low : (C : ℕ) (s : Store) (b : List Line) (l : Line) → Tidy C s → Lines s b → Memᴰ l b → l.ptr.index ≤ s.header.m
line_low C s b l t h x = live_low C s l.ptr.index t (line_live s b l h x)

-- Where no place is live, there is no line; and none is then the whole book.
pub no_lines : (s : Store) (b : List Line) → Lines s b → ((p : ℕ) → at (marks s) p ≡ 0) → b ≡ []
no_lines s [] h none = refl
no_lines s (l ∷ b) h none = absurd (line_live s (l ∷ b) l h (Memᴰ.head refl) (none l.ptr.index))

pub no_live_lines : (s : Store) → ((p : ℕ) → at (marks s) p ≡ 0) → Lines s []
no_live_lines s none =
    record { live = λ l x. absurd (Memᴰ.not-nil x); all = λ p live. absurd (live (none p)); distinct = tt }

-- A line has the handle p where both its index and its generation are p's.
pub has_ptr_lem : (p : Ptr) (l : Line) → has_ptr p l ≡ true → (l.ptr.index ≡ p.index) × (l.ptr.generation ≡ p.generation)
has_ptr_lem p l e = let x = and_parts _ _ e in (eqb-true _ _ x.0, eqb-true _ _ x.1)

-- A line at the place of a handle of that place's generation has the handle, and any other line has not.
pub line_here : (s : Store) (p : Ptr) (l : Line) → at (marks s) p.index ≡ p.generation → LiveLine s l → l.ptr.index ≡ p.index
    → has_ptr p l ≡ true
line_here s p l now live e =
    let same : l.ptr.generation ≡ p.generation = sym live.generation ∙ ap (at (marks s)) e ∙ now in
    simp tests

pub line_elsewhere : (p : Ptr) (l : Line) → (l.ptr.index ≡ p.index → ⊥) → has_ptr p l ≡ false
line_elsewhere p l h = simp tests
