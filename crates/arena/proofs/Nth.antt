-- The n-th message of a stack, counted from 0: the place that a search above the message before it finds, and its row. Assumes nothing.
use Prim.Native.Nat.{ℕ, zero, suc, ◌+◌, ◌≤◌, ◌<◌}
use mathlib.Core.Path.{◌≡◌, refl, ap, sym, ◌∙◌}
use mathlib.Core.List.{List, [], ◌∷◌, ◌++◌}
use mathlib.Core.Bool.{Bool, ◌&&◌}
use native.Mathlib.Numerals.{add-one}
use native.Mathlib.Omega.{arith}
use native.Mathlib.Decide.{ℕ_discrete, dec_lt}
use lib.ListN.{length, get_or, length-append, get_or-append}
use lib.Seq.{get_or-append_seam}
use Rattle.model.specs.Store.{Store, ptr, at, store, tables}
use Rattle.model.specs.Freelist.{live_places}
use Rattle.model.specs.Calls.{ptr_at, row, rows_of, step, steps_from}
use Rattle.model.specs.declared.Header.{Header}
use Rattle.model.specs.declared.Row.{Row}
use Rattle.model.proofs.Laying.{live_places_live, live_places_free}
use Rattle.arena.specs.Moved.{moved_rows}
use Rattle.arena.specs.declared.journal.Moves.{Moves}

-- The messages up to one place more begin with those up to that place.
abbrev Longer : List ℕ → ℕ → Type 0
Longer k m = (ps : List ℕ) × (live_places k (suc m) ≡ live_places k m ++ ps)

longer : (k : List ℕ) (m : ℕ) → Longer k m
unfolding live_places
longer k m = (_, refl)

-- Higher places have no fewer messages below them.
pub count_mono : (k : List ℕ) (p m : ℕ) → p ≤ m → length (live_places k p) ≤ length (live_places k m)
count_mono k zero zero h = omega arith
count_mono k (suc p) zero h = absurd (omega arith)
count_mono k p (suc m) h =
    elim (ℕ_discrete p (suc m)) [
      | yes e ↦ rw e (omega arith)
      | no e ↦
          let l = longer k m in
          let long = ap length l.1 ∙ length-append (live_places k m) l.0 in
          omega (arith, count_mono k p m (omega arith), long)
    ]

-- The message at place p + 1 is counted by those below it.
pub nth_live : (k : List ℕ) (p m : ℕ) → p < m → (at k (p + 1) ≡ 0 → ⊥) → get_or (live_places k m) (length (live_places k p)) 0 ≡ p + 1
nth_live k p zero h live = absurd (omega arith)
nth_live k p (suc m) h live =
    let l = longer k m in
    elim (ℕ_discrete p m) [
      | yes e ↦
          ap (λ (j : ℕ). get_or (live_places k j) (length (live_places k p)) 0) (omega arith)
          ∙ ap (λ (ps : List ℕ). get_or ps (length (live_places k p)) 0) (live_places_live k p live)
          ∙ get_or-append_seam (live_places k p) (p + 1) [] 0
      | no e ↦
          let more = ap length (live_places_live k p live) ∙ length-append (live_places k p) ((p + 1) ∷ []) in
          ap (λ (ps : List ℕ). get_or ps (length (live_places k p)) 0) l.1
          ∙ get_or-append (live_places k m) _ 0 _ (omega (arith, count_mono k (p + 1) m (omega arith), more))
          ∙ nth_live k p m (omega arith) live
    ]

pub nth_count : (k : List ℕ) (m i : ℕ) → i < length (live_places k m) → length (live_places k (get_or (live_places k m) i 0)) ≡ i + 1
unfolding live_places
nth_count k zero i h = absurd (omega arith)
nth_count k (suc m) i h =
    let e = add-one m in
    elim (dec_lt i (length (live_places k m))) [
      | yes q ↦
          let l = longer k m in
          ap (λ (ps : List ℕ). length (live_places k (get_or ps i 0))) l.1
          ∙ ap (λ (p : ℕ). length (live_places k p)) (get_or-append (live_places k m) _ 0 i q)
          ∙ nth_count k m i q
      | no q ↦ elim (ℕ_discrete (at k (m + 1)) 0) [
        | yes f ↦
            let same = ap length (ap (live_places k) (sym e) ∙ live_places_free k m f) in
            absurd (omega arith)
        | no f ↦
            let more = ap (live_places k) (sym e) ∙ live_places_live k m f in
            let long = ap length more ∙ length-append (live_places k m) ((m + 1) ∷ []) in
            let last : i ≡ length (live_places k m) = omega arith in
            ap (λ (ps : List ℕ). length (live_places k (get_or ps i 0))) more
            ∙ ap (λ (j : ℕ). length (live_places k (get_or (live_places k m ++ ((m + 1) ∷ [])) j 0))) last
            ∙ ap (λ (p : ℕ). length (live_places k p)) (get_or-append_seam (live_places k m) (m + 1) [] 0 ∙ e)
            ∙ omega arith
      ]
    ]

-- Its row.
pub nth_row : (s : Store) (ps : List ℕ) (n g : ℕ) (over : ℕ → Bool) (i : ℕ) (d : Row) → i < length ps
    → get_or (rows_of s ps n g over) i d ≡ row (ptr_at s (get_or ps i 0)) (ptr (n + i + 1) g) (over (n + i))
unfolding rows_of
nth_row s [] n g over i d h = absurd (omega arith)
nth_row s (p ∷ ps) n g over zero d h = ap (λ (j : ℕ). row (ptr_at s p) (ptr (j + 1) g) (over j)) (omega arith)
nth_row s (p ∷ ps) n g over (suc i) d h =
    nth_row s ps (n + 1) g over i d (omega arith)
    ∙ ap (λ (j : ℕ). row (ptr_at s (get_or ps i 0)) (ptr (j + 1) g) (over j)) (omega arith)

-- Row i of a store's moved messages. It does not depend on links, values and header.
pub moved_row : (k l v : List ℕ) (h : Header) (w : Moves) (i : ℕ) (d : Row) → i < length (live_places k w.m)
    → get_or (moved_rows (store (tables k l v) h) w) i d
    ≡ (let p = get_or (live_places k w.m) i 0 in
    row (ptr p (at k p)) (ptr (i + 1) w.new) (w.removed && (step (steps_from w.current i)).overflow))
moved_row k l v h w i d q =
    nth_row (store (tables k l v) h) (live_places k w.m) 0 w.new _ i d q
    ∙ ap (λ (j : ℕ). row (ptr_at (store (tables k l v) h) (get_or (live_places k w.m) i 0)) (ptr (j + 1) w.new) (w.removed && (step (steps_from w.current j)).overflow)) (omega arith)
