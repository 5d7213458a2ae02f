-- A book has as many lines as its store's `len` says: lines that take distinct places, and those exactly that are
-- live, are as many as the live places. Assumes nothing.
use Prim.Native.Nat.{ℕ, ◌≤◌}
use mathlib.Core.Path.{◌≡◌, refl, sym, ◌∙◌, subst}
use mathlib.Core.List.{List, [], ◌∷◌, Memᴰ}
use mathlib.Core.Bool.{true, false≢true}
use native.Mathlib.Omega.{arith}
use native.Mathlib.Decide.{ℕ_discrete}
use lib.ListN.{length}
use Rattle.model.specs.Store.{Store, at, write, marks}
use Rattle.model.specs.Freelist.{live_count}
use Rattle.model.proofs.Tests.{tests}
use Rattle.model.proofs.Places.{at_write_other}
use Rattle.model.proofs.Words.{at_write_none}
use Rattle.model.proofs.Count.{count_freed, all_free_none}
use Rattle.book.specs.Book.{Line, taken}
use Rattle.book.proofs.Kept.{Tidy, Distinct, Lines}
use Rattle.book.proofs.Lines.{untaken}
use Rattle.book.proofs.Taken.{line_live, line_low}

-- The lines are those of marks k in a stack of m places.
record LinesOf (k : List ℕ) (m : ℕ) (b : List Line) : Type 0 where
  low : (l : Line) → Memᴰ l b → l.ptr.index ≤ m
  live : (l : Line) → Memᴰ l b → at k l.ptr.index ≡ 0 → ⊥
  all : (p : ℕ) → p ≤ m → (at k p ≡ 0 → ⊥) → taken b p ≡ true
  distinct : Distinct b

-- No lines: no place is live.
count_none : (k : List ℕ) (m : ℕ) → LinesOf k m [] → live_count k m ≡ 0
unfolding taken
count_none k m h =
    all_free_none k m (λ p q.
    elim (ℕ_discrete (at k p) 0) [
      | yes z ↦ z
      | no d ↦ absurd (false≢true (h.all p q d))
    ])

-- Where the first line's place is freed, the lines are the others.
other_lines : (k : List ℕ) (m : ℕ) (l : Line) (b : List Line) → LinesOf k m (l ∷ b) → LinesOf (write k l.ptr.index 0) m b
unfolding taken
other_lines k m l b h =
    let i = l.ptr.index in
    let other = h.distinct.0 in
    record {
      low = λ j x. h.low j (mathlib.Core.List.Memᴰ.tail x);
      live = λ j x z.
          h.live j (mathlib.Core.List.Memᴰ.tail x) (sym (at_write_other k i j.ptr.index 0 (untaken b i j other x)) ∙ z);
      all = λ p q d.
          let apart : i ≡ p → ⊥ = λ e. d (subst (λ (r : ℕ). at (write k i 0) r ≡ 0) e (at_write_none k i)) in
          let e = h.all p q (λ z. d (at_write_other k i p 0 (λ e. apart (sym e)) ∙ z)) in
          simp tests at e;
      distinct = h.distinct.1;
    }

-- So the lines are as many as the live places.
count_lines : (k : List ℕ) (m : ℕ) (b : List Line) → LinesOf k m b → length b ≡ live_count k m
count_lines k m [] h = sym (count_none k m h)
count_lines k m (l ∷ b) h =
    let x : Memᴰ l (l ∷ b) = mathlib.Core.List.Memᴰ.head refl in
    omega (
      arith,
      count_lines (write k l.ptr.index 0) m b (other_lines k m l b h),
      count_freed k l.ptr.index m (h.low l x) (h.live l x),
    )

pub lines_counted : (C : ℕ) (s : Store) (b : List Line) → Tidy C s → Lines s b → length b ≡ s.header.len
lines_counted C s b t h =
    count_lines (marks s) s.header.m b
    (record {
      low = λ l x. line_low C s b l t h x;
      live = λ l x. line_live s b l h x;
      all = λ p q. h.all p;
      distinct = h.distinct;
    })
    ∙ t.shaped.count
