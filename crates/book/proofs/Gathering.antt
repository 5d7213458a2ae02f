-- Where compress puts messages: the one at the n-th live place goes to place n, and its row has the new handle; the
-- store is tidy after it. Assumes nothing.
use Prim.Native.Nat.{ℕ, zero, suc, ◌+◌, ◌≤◌, ◌<◌}
use mathlib.Core.Path.{◌≡◌, refl, ap, sym, ◌∙◌}
use mathlib.Core.List.Memᴰ
use mathlib.Core.List.Pairwise
use mathlib.Core.List.{List, [], ◌∷◌, map, Memᴰ, Pairwise, rel_of_Pairwise-cons}
use mathlib.Core.Logic.{◌⊎◌, inl, inr}
use mathlib.Core.Bool.{Bool}
use native.Mathlib.Omega.{arith}
use native.Mathlib.Decide.{dec_le}
use lib.ListN.{length, get_or, replicate, length-map, length-replicate, get_or-map}
use Rattle.model.specs.Store.{Store, Words, at, marks, words_at, zeroed, ptr}
use Rattle.model.specs.Calls.{laid, gathered, messages, rows_of, ptr_at}
use Rattle.model.proofs.Tests.{tests}
use Rattle.model.proofs.Above.{live_places_few, above_laid}
use Rattle.model.proofs.Lengths.{long_zeroed, long_gathered}
use Rattle.model.proofs.Changes.{full_shaped}
use Rattle.model.proofs.Laid.{at_laid, at_equal}
use Rattle.book.specs.Book.{new_ptr}
use Rattle.book.proofs.Kept.{Tidy}
use Rattle.book.proofs.Clearing.{no_words, zeroed_words}

-- The numbers of a list are those at its indices.
pub get_or_among : (qs : List ℕ) (j : ℕ) → j < length qs → Memᴰ (get_or qs j 0) qs
get_or_among [] j h = absurd (omega arith)
get_or_among (q ∷ qs) zero h = Memᴰ.head refl
get_or_among (q ∷ qs) (suc j) h = Memᴰ.tail (get_or_among qs j (omega arith))

pub among_get_or : (qs : List ℕ) (p : ℕ) → Memᴰ p qs → (j : ℕ) × (j < length qs) × (get_or qs j 0 ≡ p)
among_get_or [] p x = absurd (Memᴰ.not-nil x)
among_get_or (q ∷ qs) p x =
    elim (Memᴰ.cases_cons x) [
      | inl e ↦ (0, omega arith, sym e)
      | inr y ↦ let r = among_get_or qs p y in (suc r.0, omega (arith, r.1), r.2)
    ]

-- The rows of messages at ascending places: the handle at index j gets place n + j + 1.
pub row_ptr : (s : Store) (qs : List ℕ) (n g : ℕ) (over : ℕ → Bool) (j : ℕ) → Pairwise (λ (a b : ℕ). a < b) qs → j < length qs
    → new_ptr (rows_of s qs n g over) (ptr_at s (get_or qs j 0)) ≡ ptr (n + j + 1) g
unfolding new_ptr rows_of
row_ptr s [] n g over j up h = absurd (omega arith)
row_ptr s (q ∷ qs) n g over zero up h =
    let e : n + 1 ≡ n + 0 + 1 = omega arith in
    simp tests (ap (λ (i : ℕ). ptr i g) e)
row_ptr s (q ∷ qs) n g over (suc j) up h =
    let higher = rel_of_Pairwise-cons up ∣ get_or_among qs j (omega arith) ∣₁ in
    let other : q ≡ get_or qs j 0 → ⊥ = λ e. omega arith in
    let e : n + 1 + j + 1 ≡ n + suc j + 1 = omega arith in
    simp tests (row_ptr s qs (n + 1) g over j (Pairwise.of_cons up) (omega arith) ∙ ap (λ (i : ℕ). ptr i g) e)

-- There are no more messages than places.
messages_fit : (C : ℕ) (s : Store) → Tidy C s → length (messages s) ≤ C
messages_fit C s h = omega (arith, live_places_few (marks s) s.header.m, h.shaped.within, h.generations)

-- The words of a place that a message was moved to, and of a place above all messages.
pub gathered_low : (C : ℕ) (s : Store) (g j : ℕ) → Tidy C s → j < length (messages s)
    → words_at (gathered s s g).tables (suc j)
    ≡ record { generation = g; link = 0; value = at s.tables.values (get_or (messages s) j 0) }
unfolding gathered laid at
gathered_low C s g j h q =
    let n = length (messages s) in
    let t = zeroed s.tables s.header.m in
    let long = long_zeroed s.tables s.header.m in
    let vs = map (at s.tables.values) (messages s) in
    let fit = messages_fit C s h in
    let gs-long : length (replicate n g) ≡ n = length-replicate n g in
    let vs-long : length vs ≡ n = length-map (messages s) _ in
    let some : suc j ≡ 0 → ⊥ = λ e. omega arith in
    let mark = at_equal t.generations n g (suc j) (omega (arith, long.generations, h.generations)) some (omega arith) in
    let link = at_equal t.links (length (replicate n g)) 0 (suc j) (omega (arith, long.links, h.links)) some (omega arith) in
    let value = at_laid t.values vs (suc j) (omega (arith, long.values, h.values)) (omega arith)
    ∙ get_or-map (at s.tables.values) (messages s) j 0 in
    cc

pub gathered_high : (C : ℕ) (s : Store) (g p : ℕ) → Tidy C s → length (messages s) < p → words_at (gathered s s g).tables p ≡ no_words
unfolding gathered
gathered_high C s g p h q = above_laid _ _ _ p (rw length-replicate q) (rw length-map q) ∙ zeroed_words C s h p

-- A place is without words, or a message was moved to it.
pub gathered_each : (C : ℕ) (s : Store) (g p : ℕ) → Tidy C s
    → (words_at (gathered s s g).tables p ≡ no_words) ⊎ ((j : ℕ) × (j < length (messages s)) × (p ≡ suc j))
unfolding at
gathered_each C s g zero h = inl refl
gathered_each C s g (suc j) h =
    elim (dec_le (suc j) (length (messages s))) [
      | yes low ↦ inr (j, omega arith, refl)
      | no high ↦ inl (gathered_high C s g (suc j) h (omega arith))
    ]

-- Places 1 to the number of messages have the generation g.
pub gathered_mark : (C : ℕ) (s : Store) (g p : ℕ) → Tidy C s → (p ≡ 0 → ⊥) → p ≤ length (messages s) → at (marks (gathered s s g)) p ≡ g
gathered_mark C s g zero h some q = absurd (some refl)
gathered_mark C s g (suc j) h some q = ap (λ (w : Words). w.generation) (gathered_low C s g j h (omega arith))

-- The store after compress, of any generation from 2 on.
pub gathered_tidy : (C : ℕ) (s : Store) (g : ℕ) → Tidy C s → 2 ≤ g → Tidy C (gathered s s g)
unfolding gathered
gathered_tidy C s g h current =
    let long = long_gathered s s g in
    let generations = long.generations ∙ h.generations in
    let links = long.links ∙ h.links in
    record {
      short = h.short;
      generations = generations;
      links = links;
      values = long.values ∙ h.values;
      shaped =
          full_shaped _ _ (length (messages s)) (omega (arith, messages_fit C s h)) (generations ∙ sym links)
          (λ p some q z. omega (arith, gathered_mark C s g p h some q));
      current = current;
      above_free = λ p q. ap (λ (w : Words). w.generation) (gathered_high C s g p h q);
      above_link = λ p q. ap (λ (w : Words). w.link) (gathered_high C s g p h q);
      live_link = λ p live.
          elim (gathered_each C s g p h) [
            | inl e ↦ ap (λ (w : Words). w.link) e
            | inr r ↦ rw r.2 (ap (λ (w : Words). w.link) (gathered_low C s g r.0 h r.1))
          ];
      free_value = λ p free.
          elim (gathered_each C s g p h) [
            | inl e ↦ ap (λ (w : Words). w.value) e
            | inr r ↦ absurd (omega (arith, gathered_mark C s g p h (λ e. omega (arith, r.2)) (omega (arith, r.1, r.2))))
          ];
    }
