-- Laws of the book's lines: which places they take, and which of them a test holds for.
-- Assumes nothing.
use Prim.Native.Nat.{ℕ}
use mathlib.Core.Path.{◌≡◌, refl, ap, sym, ◌∙◌}
use mathlib.Core.List.Memᴰ
use mathlib.Core.List.{List, [], ◌∷◌, map, Memᴰ, Nodup, Nodup-nil, Nodup-cons}
use mathlib.Core.Logic.{inl, inr, ∥∥₁_elim}
use mathlib.Core.Bool.{Bool, true, false, true≢false, false≢true}
use mathlib.Core.HLevel.{⊥_prop}
use borrow.Author.Tests.{eqb-true, eq-eqb, ne_eqb}
use Rattle.std.proofs.lemmas.Bool.{cond_both, or_cases, or_left, or_right, or_from}
use Rattle.model.specs.declared.Ptr.{Ptr}
use Rattle.book.specs.Book.{Line, holding, taken}
use Rattle.book.proofs.Kept.{Distinct}

-- A place that is taken has a line, and a line's place is taken.
pub taken_line : (b : List Line) (p : ℕ) → taken b p ≡ true → (l : Line) × Memᴰ l b × (l.ptr.index ≡ p)
unfolding taken
taken_line [] p e = absurd (false≢true e)
taken_line (l ∷ b) p e =
    elim (or_cases _ _ e) [
      | inl here ↦ (l, Memᴰ.head refl, eqb-true _ _ here)
      | inr there ↦ let r = taken_line b p there in (r.0, Memᴰ.tail r.1, r.2)
    ]

pub line_taken : (b : List Line) (l : Line) → Memᴰ l b → taken b l.ptr.index ≡ true
unfolding taken
line_taken [] l x = absurd (Memᴰ.not-nil x)
line_taken (k ∷ b) l x =
    elim (Memᴰ.cases_cons x) [
      | inl e ↦ or_left _ _ (eq-eqb _ _ (ap (λ (n : Line). n.ptr.index) (sym e)))
      | inr y ↦ or_right _ _ (line_taken b l y)
    ]

-- A place that is not taken has no line.
pub untaken : (b : List Line) (p : ℕ) (l : Line) → taken b p ≡ false → Memᴰ l b → l.ptr.index ≡ p → ⊥
untaken b p l e x same = true≢false (sym (line_taken b l x) ∙ ap (taken b) same ∙ e)

pub not_taken : (b : List Line) (p : ℕ) → ((l : Line) → Memᴰ l b → l.ptr.index ≡ p → ⊥) → taken b p ≡ false
unfolding taken
not_taken [] p h = refl
not_taken (l ∷ b) p h =
    or_from _ _ (ne_eqb _ _ (h l (Memᴰ.head refl))) (not_taken b p (λ k x. h k (Memᴰ.tail x)))

-- The lines for which a test holds.
pub held_line : (test : Line → Bool) (b : List Line) (l : Line) → Memᴰ l (holding test b) → Memᴰ l b × (test l ≡ true)
unfolding holding
held_line test [] l = λ x. absurd (Memᴰ.not-nil x)
held_line test (k ∷ b) l =
    cond_both (test k) _ _ (λ (c : List Line). Memᴰ l c → Memᴰ l (k ∷ b) × (test l ≡ true))
    (λ t x.
    elim (Memᴰ.cases_cons {b = k} {l = holding test b} x) [
      | inl e ↦ (Memᴰ.head e, rw e t)
      | inr y ↦ let r = held_line test b l y in (Memᴰ.tail r.0, r.1)
    ])
    (λ t x. let r = held_line test b l x in (Memᴰ.tail r.0, r.1))

pub line_held : (test : Line → Bool) (b : List Line) (l : Line) → Memᴰ l b → test l ≡ true → Memᴰ l (holding test b)
unfolding holding
line_held test [] l x t = absurd (Memᴰ.not-nil x)
line_held test (k ∷ b) l x t =
    elim (Memᴰ.cases_cons x) [
      | inl e ↦ rw (← e, t) (Memᴰ.head refl)
      | inr y ↦
          cond_both (test k) _ _ (λ (c : List Line). Memᴰ l c) (λ u. Memᴰ.tail (line_held test b l y t)) (λ u. line_held test b l y t)
    ]

-- They take no other places than the book does, and no two take one.
pub held_untaken : (test : Line → Bool) (b : List Line) (p : ℕ) → taken b p ≡ false → taken (holding test b) p ≡ false
held_untaken test b p e =
    not_taken (holding test b) p (λ l x. untaken b p l e (held_line test b l x).0)

pub distinct_held : (test : Line → Bool) (b : List Line) → Distinct b → Distinct (holding test b)
unfolding holding
distinct_held test [] d = d
distinct_held test (l ∷ b) d =
    cond_both (test l) _ _ Distinct
    (λ t. (held_untaken test b l.ptr.index d.0, distinct_held test b d.1))
    (λ t. distinct_held test b d.1)

-- Two tests that agree on every line hold for the same lines.
pub holding_same : (test other : Line → Bool) (b : List Line) → ((l : Line) → Memᴰ l b → test l ≡ other l)
    → holding test b ≡ holding other b
unfolding holding
holding_same test other [] h = refl
holding_same test other (l ∷ b) h =
    rw (h l (Memᴰ.head refl), holding_same test other b (λ k x. h k (Memᴰ.tail x))) refl

-- Lines that get another handle or value at their place take the same places.
pub map_taken : (f : Line → Line) (b : List Line) (p : ℕ) → ((l : Line) → (f l).ptr.index ≡ l.ptr.index) → taken (map f b) p ≡ taken b p
unfolding taken
map_taken f [] p h = refl
map_taken f (l ∷ b) p h = rw (h l, map_taken f b p h) refl

-- Lines that are altered take distinct places, if those of one place afterwards were of one place before.
pub distinct_moved : (f : Line → Line) (b : List Line)
    → ((k l : Line) → Memᴰ k b → Memᴰ l b → (f k).ptr.index ≡ (f l).ptr.index → k.ptr.index ≡ l.ptr.index)
    → Distinct b → Distinct (map f b)
distinct_moved f [] h d = d
distinct_moved f (l ∷ b) h d = (
  not_taken (map f b) (f l).ptr.index
      (λ k x e.
      let r = Memᴰ.of_map f b x in
      let same = ap (λ (n : Line). n.ptr.index) r.2 ∙ e in
      untaken b l.ptr.index r.0 d.0 r.1 (h r.0 l (Memᴰ.tail r.1) (Memᴰ.head refl) same)),
  distinct_moved f b (λ k n x y. h k n (Memᴰ.tail x) (Memᴰ.tail y)) d.1,
)

pub distinct_map : (f : Line → Line) (b : List Line) → ((l : Line) → (f l).ptr.index ≡ l.ptr.index) → Distinct b → Distinct (map f b)
distinct_map f b h = distinct_moved f b (λ k l x y e. sym (h k) ∙ e ∙ h l)

-- Lines that take distinct places have distinct handles.
pub distinct_once : (b : List Line) → Distinct b → Nodup (map (λ l. l.ptr) b)
distinct_once [] d = Nodup-nil
distinct_once (l ∷ b) d =
    Nodup-cons.1 (
      λ m. ∥∥₁_elim m ⊥_prop
          (λ x.
          let r = Memᴰ.of_map (λ (k : Line). k.ptr) b x in
          untaken b l.ptr.index r.0 d.0 r.1 (ap (λ (p : Ptr). p.index) r.2)),
      distinct_once b d.1,
    )

-- A test that holds for no line, or for one line alone.
pub held_none : (test : Line → Bool) (b : List Line) → ((l : Line) → Memᴰ l b → test l ≡ false) → holding test b ≡ []
unfolding holding
held_none test [] h = refl
held_none test (l ∷ b) h = rw (h l (Memᴰ.head refl), held_none test b (λ k x. h k (Memᴰ.tail x))) refl

pub held_one : (test : Line → Bool) (b : List Line) (l : Line) → Distinct b → Memᴰ l b → test l ≡ true
    → ((k : Line) → Memᴰ k b → (k.ptr.index ≡ l.ptr.index → ⊥) → test k ≡ false) → holding test b ≡ l ∷ []
unfolding holding
held_one test [] l d x t h = absurd (Memᴰ.not-nil x)
held_one test (k ∷ b) l d x t h =
    elim (Memᴰ.cases_cons x) [
      | inl e ↦
          let none = held_none test b
          (λ j y. h j (Memᴰ.tail y) (λ same. untaken b k.ptr.index j d.0 y (same ∙ ap (λ (n : Line). n.ptr.index) e))) in
          rw (← e, t, none) refl
      | inr y ↦
          let other = h k (Memᴰ.head refl) (λ same. untaken b k.ptr.index l d.0 y (sym same)) in
          rw (other, held_one test b l d.1 y t (λ j z. h j (Memᴰ.tail z))) refl
    ]
