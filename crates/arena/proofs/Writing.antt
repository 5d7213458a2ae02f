-- A loop that writes a row for each message of a stack, from place 1 on. Assumes nothing.
use Prim.Native.Nat.{ℕ, ◌+◌, ◌≤◌, ◌<◌}
use mathlib.Core.Path.{◌≡◌, refl, ap, sym, ◌∙◌}
use mathlib.Core.List.{List, [], ◌∷◌, ◌++◌}
use mathlib.Core.Bool.{Bool, ◌&&◌}
use native.Mathlib.Numerals.{add-one}
use native.Mathlib.Omega.{arith}
use lib.ListN.{length, length-append}
use Rattle.model.specs.Store.{Store, tables, store, ptr, at}
use Rattle.model.specs.Freelist.{live_places}
use Rattle.model.specs.Calls.{step, steps_from, ptr_at, row, rows_of}
use Rattle.model.specs.declared.Header.{Header}
use Rattle.model.specs.declared.Ptr.{Ptr}
use Rattle.model.specs.declared.Row.{Row}
use Rattle.model.specs.declared.GenerationStep.{GenerationStep}
use Rattle.model.proofs.Laying.{live_places_live, live_places_free, length_rows_of, rows_of_next}
use Rattle.model.proofs.Above.{live_places_few}
use Rattle.arena.specs.Journal.{JournalLaws}
use Rattle.arena.specs.Moved.{moved_rows}
use Rattle.arena.specs.declared.journal.Moves.{Moves}

-- The rows of the messages up to place p of a store with marks k. They do not depend on its links, values and header.
abbrev rows_up_to : List ℕ → List ℕ → List ℕ → Header → Moves → ℕ → List Row
rows_up_to k l v h w p =
    rows_of (store (tables k l v) h) (live_places k p) 0 w.new (λ n. w.removed && (step (steps_from w.current n)).overflow)

-- Of a stack of m places with marks k and a journal j₀, the rows of the messages up to place p are written. They are
-- n, the journal is j, and after as many removals the generation is g.
pub record Writing {J : Type 0} (written : List Row → J → J) (k : List ℕ) (w : Moves) (j₀ j : J) (g n p : ℕ) : Type 0 where
  pub within : p ≤ w.m
  pub count : n ≡ length (live_places k p)
  pub generation : g ≡ steps_from w.current n
  pub rows : (l v : List ℕ) (h : Header) → j ≡ written (rows_up_to k l v h w p) j₀

-- what is written is no more than what is looked at
pub writing_low : {J : Type 0} {written : List Row → J → J} {k : List ℕ} {w : Moves} {j₀ j : J} {g n p : ℕ}
    → Writing written k w j₀ j g n p → n ≤ p
writing_low {k} {p} t = omega (arith, t.count, live_places_few k p)

-- The row of the next place's message: `old` is its handle, q its new one, and `over` its removal's overflow.
rows_up_to_next : {J : Type 0} {written : List Row → J → J} {k : List ℕ} {w : Moves} {j₀ j : J} {g n p : ℕ} {old q : Ptr} {over : Bool}
    → live_places k (p + 1) ≡ live_places k p ++ ((p + 1) ∷ []) → old ≡ ptr (p + 1) (at k (p + 1)) → over ≡ w.removed && (step g).overflow
    → q ≡ ptr (n + 1) w.new → Writing written k w j₀ j g n p → (l v : List ℕ) (h : Header)
    → rows_up_to k l v h w (p + 1) ≡ rows_up_to k l v h w p ++ (row old q over ∷ [])
rows_up_to_next {k} {w} {g} {n} {p} {old} {q} {over} more from o to t l v h =
    let s : Store = store (tables k l v) h in
    let overflows : ℕ → Bool = λ i. w.removed && (step (steps_from w.current i)).overflow in
    let place : 0 + length (live_places k p) ≡ n = omega (arith, t.count) in
    let flag : over ≡ overflows n = o ∙ ap (λ (i : ℕ). w.removed && (step i).overflow) t.generation in
    let last : row old q over ≡ row (ptr_at s (p + 1)) (ptr (n + 1) w.new) (overflows n) = cc in
    ap (λ (ps : List ℕ). rows_of s ps 0 w.new overflows) more
    ∙ rows_of_next s (live_places k p) 0 w.new overflows (p + 1)
    ∙ ap (λ (i : ℕ). rows_of s (live_places k p) 0 w.new overflows ++ (row (ptr_at s (p + 1)) (ptr (i + 1) w.new) (overflows i) ∷ [])) place
    ∙ ap (λ (r : Row). rows_of s (live_places k p) 0 w.new overflows ++ (r ∷ [])) (sym last)

module _ {J : Type 0} {rows : J → List Row} {with_row : J → ℕ → Row → J} {written : List Row → J → J} (laws : JournalLaws rows with_row written) where
  pub writing_starts : (k : List ℕ) (w : Moves) (j : J) → Writing written k w j j w.current 0 0
  unfolding live_places steps_from rows_of
  writing_starts k w j =
      record { within = omega arith; count = refl; generation = refl; rows = λ l v h. sym (laws.no_row j) }

  -- `stepped` is the generation after that removal.
  pub writing_live : {k : List ℕ} {w : Moves} {j₀ j j' : J} {g n p : ℕ} {old q : Ptr} {over : Bool} {stepped : GenerationStep}
      → p < w.m → old ≡ ptr (p + 1) (at k (p + 1)) → (old.generation ≡ 0 → ⊥)
      → stepped ≡ step g → over ≡ w.removed && stepped.overflow → q ≡ ptr (n + 1) w.new → j' ≡ with_row j n (row old q over)
      → Writing written k w j₀ j g n p → Writing written k w j₀ j' stepped.generation (n + 1) (p + 1)
  unfolding steps_from
  writing_live {k} {w} {j₀} {n} {p} {old} {q} {over} below from live s o to next t =
      let more : live_places k (p + 1) ≡ live_places k p ++ ((p + 1) ∷ []) = live_places_live k p (λ z. live (ap (λ (x : Ptr). x.generation) from ∙ z)) in
      let overflows : over ≡ w.removed && (step _).overflow = o ∙ ap (λ (x : GenerationStep). w.removed && x.overflow) s in
      record {
        within = omega arith;
        count = ap (λ (i : ℕ). i + 1) t.count ∙ sym (ap length more ∙ length-append (live_places k p) ((p + 1) ∷ []));
        generation =
            ap (λ (x : GenerationStep). x.generation) s
            ∙ ap (λ (i : ℕ). (step i).generation) t.generation
            ∙ ap (steps_from w.current) (sym (add-one n));
        rows = λ l v h.
            let rows = rows_up_to k l v h w p in
            let long : length rows ≡ n = length_rows_of _ (live_places k p) 0 w.new _ ∙ sym t.count in
            next
            ∙ ap (λ (x : J). with_row x n (row old q over)) (t.rows l v h)
            ∙ ap (λ (i : ℕ). with_row (written rows j₀) i (row old q over)) (sym long)
            ∙ sym (ap (λ (rs : List Row). written rs j₀) (rows_up_to_next more from overflows to t l v h) ∙ laws.row_more rows (row old q over) j₀);
      }

pub writing_free : {J : Type 0} {written : List Row → J → J} {k : List ℕ} {w : Moves} {j₀ j : J} {g n p : ℕ} {old : Ptr} → p < w.m
    → old ≡ ptr (p + 1) (at k (p + 1)) → old.generation ≡ 0
    → Writing written k w j₀ j g n p → Writing written k w j₀ j g n (p + 1)
writing_free {written} {k} {w} {j₀} {p} below from f t =
    let same : live_places k (p + 1) ≡ live_places k p = live_places_free k p (sym (ap (λ (x : Ptr). x.generation) from) ∙ f) in
    record {
      within = omega arith;
      count = t.count ∙ ap length (sym same);
      generation = t.generation;
      rows = λ l v h. t.rows l v h
          ∙ ap (λ (ps : List ℕ). written (rows_of (store (tables k l v) h) ps 0 w.new (λ n. w.removed && (step (steps_from w.current n)).overflow)) j₀) (sym same);
    }

pub writing_ends : {J : Type 0} {written : List Row → J → J} {k : List ℕ} {w : Moves} {j₀ j : J} {g n p : ℕ} → w.m ≤ p
    → Writing written k w j₀ j g n p
    → (l v : List ℕ) (h : Header) → j ≡ written (moved_rows (store (tables k l v) h) w) j₀
writing_ends {written} {k} {w} {j₀} {p} above t l v h =
    t.rows l v h ∙ ap (λ (i : ℕ). written (rows_up_to k l v h w i) j₀) (omega (arith, t.within))
