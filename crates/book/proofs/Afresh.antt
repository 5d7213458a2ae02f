-- A store that is ordered is the one laid out afresh from its lines: the same words at each place, the same stack and
-- the same chain. Assumes nothing.
use Prim.Native.Nat.{ℕ, ◌-◌, ◌≤◌}
use mathlib.Core.Path.{◌≡◌, refl, ap, sym, ◌∙◌}
use mathlib.Core.List.Memᴰ
use mathlib.Core.List.{List, [], ◌∷◌, Memᴰ}
use mathlib.Core.Bool.{Bool, true, false}
use mathlib.Core.Logic.{inl, inr}
use native.Mathlib.Omega.{arith}
use native.Mathlib.Decide.{ℕ_discrete, dec_le}
use lib.ListN.{length, replicate, length-replicate, get_or-replicate}
use borrow.Author.Tests.{eqb-false}
use Rattle.std.proofs.lemmas.Bool.{or_parts}
use Rattle.model.specs.Store.{Tables, Store, Words, at, new, words_at, placed, marks}
use Rattle.model.specs.Freelist.{chain, chained}
use Rattle.model.specs.Calls.{ordered}
use Rattle.model.proofs.Places.{at_zero, at_place, at_outside, at_write_same}
use Rattle.model.proofs.Lengths.{AsLong, same, via, long_placed}
use Rattle.model.proofs.Words.{same_words}
use Rattle.model.proofs.Relink.{chained_same, chained_again}
use Rattle.book.specs.Book.{Line, taken, at_places, laid_afresh}
use Rattle.book.proofs.Kept.{Tidy, Distinct, Lines}
use Rattle.book.proofs.Lines.{taken_line, untaken}
use Rattle.book.proofs.Taken.{line_live, line_low, untaken_free}
use Rattle.book.proofs.Counted.{lines_counted}
use Rattle.book.proofs.Highest.{highest_m}
use Rattle.book.proofs.Ordering.{tidy_orders, ordered_tidy, ordered_lines}
use Rattle.book.proofs.Placing.{placed_other}

-- The three words of a place.
abbrev words : ℕ → ℕ → ℕ → Words
words g l v = record { generation = g; link = l; value = v }

-- Lines laid at their places leave the tables as long as they were.
long_at_places : (b : List Line) (t : Tables) → AsLong (at_places b t) t
unfolding at_places
long_at_places [] t = same t
long_at_places (l ∷ b) t = via (long_placed _ _ _ _ _) (long_at_places b t)

-- The lines at their places in the tables of a new store.
abbrev fresh_tables : ℕ → List Line → Tables
fresh_tables C b = at_places b (new C).tables

-- Each of them has C entries.
fresh_long : (C : ℕ) (b : List Line) → (length (fresh_tables C b).generations ≡ C) × (length (fresh_tables C b).links ≡ C)
    × (length (fresh_tables C b).values ≡ C)
unfolding new
fresh_long C b =
    let a = long_at_places b (new C).tables in
    let e = length-replicate {A = ℕ} C 0 in
    (a.generations ∙ e, a.links ∙ e, a.values ∙ e)

-- A new store's tables have 0 at every place.
pub at_zeros : (C p : ℕ) → at (replicate C 0) p ≡ 0
at_zeros C p =
    let e = length-replicate {A = ℕ} C 0 in
    elim (ℕ_discrete p 0) [
      | yes z ↦ at_zero _ p z
      | no d ↦
          elim (dec_le p C) [
            | yes q ↦ at_place (replicate C 0) p d ∙ get_or-replicate C (p - 1) 0 0 (omega arith)
            | no q ↦ at_outside _ p (omega arith)
          ]
    ]

-- The words of a place that is written.
words_placed : (t : Tables) (p g l v : ℕ) → (p ≡ 0 → ⊥) → p ≤ length t.generations → p ≤ length t.links → p ≤ length t.values
    → words_at (placed t p g l v) p ≡ words g l v
unfolding placed
words_placed t p g l v some a b c =
    rw (at_write_same t.generations p g some a, at_write_same t.links p l some b, at_write_same t.values p v some c) refl

-- At a line's place there are its generation, link 0 and its value; at a place that no line takes there are zeros.
fresh_line : (C : ℕ) (b : List Line) (l : Line) → Distinct b → Memᴰ l b → (l.ptr.index ≡ 0 → ⊥) → l.ptr.index ≤ C
    → words_at (fresh_tables C b) l.ptr.index ≡ words l.ptr.generation 0 l.value
unfolding at_places
fresh_line C [] l d x some low = absurd (Memᴰ.not-nil x)
fresh_line C (k ∷ b) l d x some low =
    elim (Memᴰ.cases_cons x) [
      | inl e ↦
          let long = fresh_long C b in
          rw (← e)
          (words_placed (fresh_tables C b) l.ptr.index _ 0 _ some
          (omega (arith, long.0)) (omega (arith, long.1)) (omega (arith, long.2)))
      | inr y ↦
          placed_other (fresh_tables C b) k.ptr.index _ 0 _ l.ptr.index (untaken b k.ptr.index l d.0 y)
          ∙ fresh_line C b l d.1 y some low
    ]

fresh_untaken : (C : ℕ) (b : List Line) (p : ℕ) → taken b p ≡ false → words_at (fresh_tables C b) p ≡ words 0 0 0
unfolding at_places taken new
fresh_untaken C [] p e = rw (at_zeros C p) refl
fresh_untaken C (l ∷ b) p e =
    let r = or_parts _ _ e in
    placed_other (fresh_tables C b) l.ptr.index _ 0 _ p (λ z. eqb-false _ _ r.0 (sym z)) ∙ fresh_untaken C b p r.1

-- So at every place there are the store's generation and value, and link 0.
fresh_words : (C : ℕ) (s : Store) (b : List Line) (p : ℕ) → Tidy C s → Lines s b
    → words_at (fresh_tables C b) p ≡ words (at (marks s) p) 0 (at s.tables.values p)
fresh_words C s b p t h = go (taken b p) refl
  where
    go : (c : Bool) → taken b p ≡ c → words_at (fresh_tables C b) p ≡ words (at (marks s) p) 0 (at s.tables.values p)
    go true e =
        let r = taken_line b p e in
        let l = r.0 in
        let a = h.live l r.1 in
        let live = line_live s b l h r.1 in
        let low = line_low C s b l t h r.1 in
        rw (← r.2, a.generation, a.value)
        (fresh_line C b l h.distinct r.1 (λ z. live (at_zero (marks s) _ z)) (omega (arith, t.shaped.within, t.generations)))
    go false e =
        let z = untaken_free s b p h e in
        rw (z, t.free_value p z) (fresh_untaken C b p e)

-- The generations and the values are the store's.
fresh_generations : (C : ℕ) (s : Store) (b : List Line) → Tidy C s → Lines s b → (fresh_tables C b).generations ≡ marks s
fresh_generations C s b t h =
    same_words _ _ ((fresh_long C b).0 ∙ sym t.generations) (λ p some. ap (λ (w : Words). w.generation) (fresh_words C s b p t h))

fresh_values : (C : ℕ) (s : Store) (b : List Line) → Tidy C s → Lines s b → (fresh_tables C b).values ≡ s.tables.values
fresh_values C s b t h =
    same_words _ _ ((fresh_long C b).2 ∙ sym t.values) (λ p some. ap (λ (w : Words). w.value) (fresh_words C s b p t h))

-- Chained, the links are those of the store chained: both are 0 at a live place and above the stack.
fresh_chain : (C : ℕ) (s : Store) (b : List Line) → Tidy C s → Lines s b
    → chained (marks s) s.header.m (fresh_tables C b).links 0 ≡ chained (marks s) s.header.m s.tables.links 0
fresh_chain C s b t h =
    chained_same (marks s) s.header.m (fresh_tables C b).links s.tables.links 0 ((fresh_long C b).1 ∙ sym t.links)
    (λ p some q. ap (λ (w : Words). w.link) (fresh_words C s b p t h) ∙ sym (unlinked p q))
  where
    unlinked : (p : ℕ) → (p ≤ s.header.m → at (marks s) p ≡ 0 → ⊥) → at s.tables.links p ≡ 0
    unlinked p q =
        elim (dec_le p s.header.m) [
          | yes r ↦ t.live_link p (q r)
          | no r ↦ t.above_link p (omega arith)
        ]

-- A tidy store that ends at a live place and is chained as by order is laid out afresh.
chained_afresh : (C : ℕ) (s : Store) (b : List Line) → Tidy C s → Lines s b
    → ((s.header.m ≡ 0 → ⊥) → at (marks s) s.header.m ≡ 0 → ⊥)
    → chained (marks s) s.header.m s.tables.links 0 ≡ chain s.header.root s.tables.links
    → s ≡ laid_afresh C b s.header.generation
unfolding laid_afresh
chained_afresh C s b t h last again =
    let high = highest_m C s b t h last in
    rw (fresh_generations C s b t h, fresh_values C s b t h, lines_counted C s b t h, high, fresh_chain C s b t h, again) refl

-- So is what order leaves.
pub ordered_afresh : (C : ℕ) (s : Store) (b : List Line) → Tidy C s → Lines s b → ordered s ≡ laid_afresh C b s.header.generation
unfolding ordered
ordered_afresh C s b t h =
    chained_afresh C (ordered s) b (ordered_tidy C s t) (ordered_lines C s b t h) (tidy_orders C s t).live (chained_again _ _ _ 0)
