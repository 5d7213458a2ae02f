-- A handle shows its line's value, or a refusal where no line has it. Assumes nothing.
use Prim.Native.Nat.{ℕ}
use mathlib.Core.Path.{◌≡◌, refl, ap, sym, ◌∙◌}
use mathlib.Core.List.Memᴰ
use mathlib.Core.List.{List, [], ◌∷◌, Memᴰ}
use mathlib.Core.Logic.{inl, inr}
use mathlib.Core.Option.{none, some}
use mathlib.Core.Bool.{Bool, true, false}
use native.Mathlib.Decide.{ℕ_discrete}
use Rattle.model.specs.Store.{Store, at, marks}
use Rattle.model.specs.Refusals.{zero_ptr, invalid_index, invalid_ptr}
use Rattle.model.specs.Calls.{ptr_refusal, unless, get}
use Rattle.model.specs.declared.Ptr.{Ptr}
use Rattle.model.proofs.Tests.{tests}
use Rattle.model.proofs.Places.{at_zero}
use Rattle.model.proofs.Refusals.{access_valid}
use Rattle.book.specs.Book.{Line, has_ptr, lookup, shown}
use Rattle.book.proofs.Kept.{Tidy, Lines, LiveLine, Distinct}
use Rattle.book.proofs.Lines.{untaken}
use Rattle.book.proofs.Tested.{tidy_tables, tidy_header}
use Rattle.book.proofs.Taken.{live_low, has_ptr_lem, line_here, line_elsewhere}
use Rattle.book.proofs.Access.{line_of}

-- The book has the value of a handle's line, and none where no line has the handle.
pub lookup_line : (b : List Line) (p : Ptr) (l : Line) → Distinct b → Memᴰ l b → has_ptr p l ≡ true → lookup p b ≡ some l.value
unfolding lookup
lookup_line [] p l d x t = absurd (Memᴰ.not-nil x)
lookup_line (k ∷ b) p l d x t =
    elim (Memᴰ.cases_cons x) [
      | inl e ↦ rw (← e, t) refl
      | inr y ↦
          let other = line_elsewhere p k (λ e. untaken b k.ptr.index l d.0 y ((has_ptr_lem p l t).0 ∙ sym e)) in
          rw other (lookup_line b p l d.1 y t)
    ]

pub lookup_none : (b : List Line) (p : Ptr) → ((l : Line) → Memᴰ l b → has_ptr p l ≡ false) → lookup p b ≡ none
unfolding lookup
lookup_none [] p h = refl
lookup_none (l ∷ b) p h = rw (h l (Memᴰ.head refl)) (lookup_none b p (λ k x. h k (Memᴰ.tail x)))

-- A line's handle is not turned down.
pub line_accessed : (C : ℕ) (s : Store) (p : Ptr) (l : Line) → Tidy C s → LiveLine s l → has_ptr p l ≡ true → ptr_refusal s p ≡ 0
unfolding ptr_refusal zero_ptr invalid_ptr invalid_index
line_accessed C s p l t live h =
    let e = has_ptr_lem p l h in
    let same : at (marks s) p.index ≡ p.generation = ap (at (marks s)) (sym e.0) ∙ live.generation ∙ e.1 in
    let some : p.generation ≡ 0 → ⊥ = λ z. live.some (e.1 ∙ z) in
    let marked : at (marks s) p.index ≡ 0 → ⊥ = λ z. some (sym same ∙ z) in
    let place : p.index ≡ 0 → ⊥ = λ z. marked (at_zero (marks s) p.index z) in
    let low = live_low C s p.index t marked in
    simp (tests, tidy_tables C s t, tidy_header C s t)

pub kept_shows : (C : ℕ) (s : Store) (b : List Line) → Tidy C s → Lines s b → (p : Ptr) → shown (get s p).answer ≡ lookup p b
unfolding get unless
kept_shows C s b t h p =
    elim (ℕ_discrete (ptr_refusal s p) 0) [
      | yes e ↦
          let v = access_valid s p e in
          let r = line_of s b p h v in
          let live = h.live r.0 r.1 in
          let value : at s.tables.values p.index ≡ r.0.value = ap (at s.tables.values) (sym r.2) ∙ live.value in
          simp tests (ap some value ∙ sym (lookup_line b p r.0 h.distinct r.1 (line_here s p r.0 v.generation live r.2)))
      | no d ↦
          simp tests
          (sym (lookup_none b p (λ l x. unheld (has_ptr p l) refl (λ e. d (line_accessed C s p l t (h.live l x) e)))))
    ]
  where
    unheld : (x : Bool) {y : Bool} → y ≡ x → (y ≡ true → ⊥) → y ≡ false
    unheld true e f = absurd (f e)
    unheld false e f = e
