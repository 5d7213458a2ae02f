-- Order keeps the invariant: it changes no mark and no message's value, and leaves the store tidy. Assumes nothing.
use Prim.Native.Nat.{ℕ, ◌<◌}
use mathlib.Core.Path.{◌≡◌, ◌∙◌, subst, refl}
use mathlib.Core.List.{List}
use native.Mathlib.Omega.{arith}
use native.Mathlib.Decide.{dec_le}
use Rattle.model.specs.Store.{Store, at, marks}
use Rattle.model.specs.Freelist.{trimmed, chained}
use Rattle.model.specs.Calls.{ordered}
use Rattle.model.specs.declared.Ptr.{Ptr}
use Rattle.model.proofs.Lengths.{long_ordered}
use Rattle.model.proofs.Count.{last_highest}
use Rattle.model.proofs.Shape.{Shaped}
use Rattle.model.proofs.Ordered.{Ordered, orders}
use Rattle.book.specs.Book.{Line}
use Rattle.book.proofs.Kept.{Tidy, Lines, Kept}
use Rattle.book.proofs.Taken.{line_live}
use Rattle.book.proofs.Handles.{given_same}

-- What order makes of a tidy store's stack and chain.
abbrev pub OrderedStore : Store → Type 0
OrderedStore s =
    let t = trimmed (marks s) s.header.m s.tables.links s.tables.values in
    Ordered (marks s) s.tables.links s.tables.values s.header.m t (chained (marks s) t.m t.links 0)

pub tidy_orders : (C : ℕ) (s : Store) → Tidy C s → OrderedStore s
tidy_orders C s t = orders (marks s) s.tables.links s.tables.values s.header.m t.shaped.within t.shaped.long

-- A place above the ordered stack is free, and has link 0.
above_ordered : (C : ℕ) (s : Store) (p : ℕ) → Tidy C s → (ordered s).header.m < p → at (marks s) p ≡ 0
unfolding ordered
above_ordered C s p t h =
    elim (dec_le p s.header.m) [
      | yes q ↦ (tidy_orders C s t).mark_popped p h q
      | no q ↦ t.above_free p (omega arith)
    ]

link_above : (C : ℕ) (s : Store) (p : ℕ) → Tidy C s → (ordered s).header.m < p → at (ordered s).tables.links p ≡ 0
unfolding ordered
link_above C s p t h =
    let o = tidy_orders C s t in
    elim (dec_le p s.header.m) [
      | yes q ↦ o.link_popped p h q
      | no q ↦ o.link_kept p (λ c. absurd (q c)) ∙ t.above_link p (omega arith)
    ]

-- The value of a live place is kept, and that of a free place is still 0.
live_value : (C : ℕ) (s : Store) (p : ℕ) → Tidy C s → (at (marks s) p ≡ 0 → ⊥) → at (ordered s).tables.values p ≡ at s.tables.values p
unfolding ordered
live_value C s p t live =
    let o = tidy_orders C s t in
    o.value_kept p (λ q. omega (arith, last_highest (marks s) s.header.m p q live, o.last))

free_value : (C : ℕ) (s : Store) (p : ℕ) → Tidy C s → at (marks s) p ≡ 0 → at (ordered s).tables.values p ≡ 0
unfolding ordered
free_value C s p t z =
    let o = tidy_orders C s t in
    elim (dec_le p s.header.m) [
      | no q ↦ o.value_kept p (λ c. absurd (q c)) ∙ t.free_value p z
      | yes q ↦
          elim (dec_le p (ordered s).header.m) [
            | yes r ↦ o.value_kept p (λ c. r) ∙ t.free_value p z
            | no r ↦ o.value_popped p (omega arith) q
          ]
    ]

-- Order leaves the store tidy.
pub ordered_tidy : (C : ℕ) (s : Store) → Tidy C s → Tidy C (ordered s)
unfolding ordered
ordered_tidy C s t =
    let o = tidy_orders C s t in
    let long = long_ordered s in
    record {
      short = t.short;
      generations = t.generations;
      links = long.links ∙ t.links;
      values = long.values ∙ t.values;
      shaped =
          subst (λ (n : ℕ). Shaped (marks s) (ordered s).tables.links n (ordered s).header.m (ordered s).header.root)
          t.shaped.count o.shaped;
      current = t.current;
      above_free = λ p h. above_ordered C s p t h;
      above_link = λ p h. link_above C s p t h;
      live_link = λ p live. o.link_kept p (λ q. live) ∙ t.live_link p live;
      free_value = λ p z. free_value C s p t z;
    }

-- The lines are still the store's messages.
pub ordered_lines : (C : ℕ) (s : Store) (b : List Line) → Tidy C s → Lines s b → Lines (ordered s) b
unfolding ordered
ordered_lines C s b t h =
    record {
      live = λ l x.
          let a = h.live l x in
          record {
            some = a.some;
            generation = a.generation;
            value = live_value C s l.ptr.index t (line_live s b l h x) ∙ a.value;
          };
      all = h.all;
      distinct = h.distinct;
    }

-- The current generation and the marks stay, and so does all that is said of the handles given out.
pub ordered_kept : (C : ℕ) (s : Store) (b : List Line) (ps : List Ptr) → Kept C s b ps → Kept C (ordered s) b ps
unfolding ordered
ordered_kept C s b ps k =
    record {
      tidy = ordered_tidy C s k.tidy;
      lines = ordered_lines C s b k.tidy k.lines;
      given = given_same s (ordered s) ps k.given refl (λ p e. e);
    }
