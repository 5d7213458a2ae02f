-- Invalidate and put of a handle that is valid keep the invariant. Assumes nothing.
use Prim.Native.Nat.{ℕ, ◌≤◌, ◌<◌}
use mathlib.Core.Path.{◌≡◌, refl, ap, sym, ◌∙◌, subst}
use mathlib.Core.List.Memᴰ
use mathlib.Core.List.{List, [], ◌∷◌, ◌++◌, map, Memᴰ}
use mathlib.Core.Bool.{cond, true≢false}
use native.Mathlib.Omega.{arith}
use native.Mathlib.Decide.{ℕ_discrete}
use Rattle.std.proofs.lemmas.Bool.{cond_both}
use Rattle.model.specs.Store.{Store, tables, header, store, ptr, at, write, marks}
use Rattle.model.specs.declared.Ptr.{Ptr}
use Rattle.model.proofs.Places.{length_write, at_zero, at_write_same, at_write_other}
use Rattle.model.proofs.Refusals.{PtrValid}
use Rattle.model.proofs.Changes.{mark_shaped}
use Rattle.book.specs.Book.{Line, line, has_ptr, holding, replace_ptr, replace_value}
use Rattle.book.proofs.Kept.{Tidy, Lines, LiveLine, Given, Kept}
use Rattle.book.proofs.Lines.{taken_line, map_taken, distinct_map, held_one}
use Rattle.book.proofs.Handles.{given_later, given_same, given_one, given_more}
use Rattle.book.proofs.Taken.{has_ptr_lem, line_here, line_elsewhere}

-- The line of a valid handle.
pub line_of : (s : Store) (b : List Line) (p : Ptr) → Lines s b → PtrValid s p
    → (l : Line) × Memᴰ l b × (l.ptr.index ≡ p.index)
line_of s b p k v = taken_line b p.index (k.all p.index v.index.live)

-- A line that gets another handle at its place keeps the place.
replace_ptr_place : (p q : Ptr) (l : Line) → q.index ≡ p.index
    → (cond (has_ptr p l) (line q l.value) l).ptr.index ≡ l.ptr.index
replace_ptr_place p q l e =
    cond_both (has_ptr p l) _ _ (λ (k : Line). k.ptr.index ≡ l.ptr.index) (λ t. e ∙ sym (has_ptr_lem p l t).0) (λ t. refl)

replace_value_place : (p : Ptr) (v : ℕ) (l : Line) → (cond (has_ptr p l) (line p v) l).ptr.index ≡ l.ptr.index
replace_value_place p v l =
    cond_both (has_ptr p l) _ _ (λ (k : Line). k.ptr.index ≡ l.ptr.index) (λ t. sym (has_ptr_lem p l t).0) (λ t. refl)

-- Invalidate: the store with generation g at the place of p and in its header.
abbrev remarked : Store → Ptr → ℕ → Store
remarked s p g =
    store (tables (write s.tables.generations p.index g) s.tables.links s.tables.values)
    (header s.header.len s.header.m s.header.root g)

module _ {C : ℕ} (s : Store) (b : List Line) (ps : List Ptr) (p : Ptr) (k : Kept C s b ps) (v : PtrValid s p) where
  -- The place of a valid handle is one of the tables.
  place_some : p.index ≡ 0 → ⊥
  place_some e = v.index.live (at_zero (marks s) p.index e)

  place_within : p.index ≤ C
  place_within = omega (arith, v.index.low, k.tidy.shaped.within, k.tidy.generations)

  module _ (g : ℕ) (h : s.header.generation < g) where
    some : g ≡ 0 → ⊥
    some e = omega arith

    here : at (write (marks s) p.index g) p.index ≡ g
    here = at_write_same (marks s) p.index g place_some (omega (arith, place_within, k.tidy.generations))

    -- A place is live after it exactly if it was before.
    still_live : (i : ℕ) → (at (write (marks s) p.index g) i ≡ 0 → ⊥) → at (marks s) i ≡ 0 → ⊥
    still_live i live z =
        elim (ℕ_discrete i p.index) [
          | yes e ↦ v.index.live (subst (λ (j : ℕ). at (marks s) j ≡ 0) e z)
          | no d ↦ live (at_write_other (marks s) p.index i g d ∙ z)
        ]

    still_free : (i : ℕ) → at (write (marks s) p.index g) i ≡ 0 → at (marks s) i ≡ 0
    still_free i z =
        elim (ℕ_discrete i p.index) [
          | yes e ↦ absurd (some (sym here ∙ ap (at (write (marks s) p.index g)) (sym e) ∙ z))
          | no d ↦ sym (at_write_other (marks s) p.index i g d) ∙ z
        ]

    remarked_tidy : Tidy C (remarked s p g)
    remarked_tidy =
        let t = k.tidy in
        record {
          short = t.short;
          generations = length_write (marks s) p.index g ∙ t.generations;
          links = t.links;
          values = t.values;
          shaped =
              mark_shaped (marks s) s.tables.links s.header.len s.header.m s.header.root p.index g v.index.low
              v.index.live some t.shaped;
          current = omega (arith, t.current);
          above_free = λ i q.
              at_write_other (marks s) p.index i g (λ e. omega (arith, v.index.low)) ∙ t.above_free i q;
          above_link = t.above_link;
          live_link = λ i live. t.live_link i (still_live i live);
          free_value = λ i z. t.free_value i (still_free i z);
        }

    -- Its line gets the new handle, and no other is changed.
    remarked_line : (l : Line) → LiveLine s l → LiveLine (remarked s p g) (cond (has_ptr p l) (line (ptr p.index g) l.value) l)
    remarked_line l live =
        cond_both (has_ptr p l) _ _ (LiveLine (remarked s p g))
        (λ t.
        let e = (has_ptr_lem p l t).0 in
        record { some = some; generation = here; value = ap (at s.tables.values) (sym e) ∙ live.value })
        (λ t.
        let other : l.ptr.index ≡ p.index → ⊥ = λ e. true≢false (sym (line_here s p l v.generation live e) ∙ t) in
        record {
          some = live.some;
          generation = at_write_other (marks s) p.index l.ptr.index g other ∙ live.generation;
          value = live.value;
        })

    remarked_lines : Lines (remarked s p g) (replace_ptr p (ptr p.index g) b)
    remarked_lines =
        let q = ptr p.index g in
        let f : Line → Line = λ (l : Line). cond (has_ptr p l) (line q l.value) l in
        record {
          live = λ l x.
              let r = Memᴰ.of_map f b x in
              subst (LiveLine (remarked s p g)) r.2 (remarked_line r.0 (k.lines.live r.0 r.1));
          all = λ i live. map_taken f b i (λ l. replace_ptr_place p q l refl) ∙ k.lines.all i (still_live i live);
          distinct = distinct_map f b (λ l. replace_ptr_place p q l refl) k.lines.distinct;
        }

    -- One handle is given out, and it was not before.
    remarked_given : Given (remarked s p g) (ps ++ map (λ l. ptr p.index g) (holding (has_ptr p) b))
    remarked_given =
        let q = ptr p.index g in
        let r = line_of s b p k.lines v in
        let l = r.0 in
        let one : holding (has_ptr p) b ≡ l ∷ [] = held_one (has_ptr p) b l k.lines.distinct r.1
        (line_here s p l v.generation (k.lines.live l r.1) r.2)
        (λ j x other. line_elsewhere p j (λ e. other (e ∙ sym r.2))) in
        rw one
        (given_more (remarked s p g) ps (q ∷ []) (given_later s (remarked s p g) ps k.given h)
        (given_one (remarked s p g) q (omega arith) here)
        (λ r x y. let e : r.generation ≡ g = ap (λ (t : Ptr). t.generation) (Memᴰ.eq_of_singleton y) in omega (arith, k.given.low r x)))

    pub remarked_kept : Kept C (remarked s p g) (replace_ptr p (ptr p.index g) b)
        (ps ++ map (λ l. ptr p.index g) (holding (has_ptr p) b))
    remarked_kept = record { tidy = remarked_tidy; lines = remarked_lines; given = remarked_given }

  -- Put: the store with the value x at the place of p.
  module _ (x : ℕ) where
    abbrev store_with_value : Store
    store_with_value =
        store (tables s.tables.generations s.tables.links (write s.tables.values p.index x)) s.header

    value_tidy : Tidy C store_with_value
    value_tidy =
        let t = k.tidy in
        record {
          short = t.short;
          generations = t.generations;
          links = t.links;
          values = length_write s.tables.values p.index x ∙ t.values;
          shaped = t.shaped;
          current = t.current;
          above_free = t.above_free;
          above_link = t.above_link;
          live_link = t.live_link;
          free_value = λ i z.
              at_write_other s.tables.values p.index i x
              (λ e. v.index.live (subst (λ (j : ℕ). at (marks s) j ≡ 0) e z)) ∙ t.free_value i z;
        }

    -- Its line gets the value, and no other is changed.
    value_line : (l : Line) → LiveLine s l → LiveLine store_with_value (cond (has_ptr p l) (line p x) l)
    value_line l live =
        cond_both (has_ptr p l) _ _ (LiveLine store_with_value)
        (λ t.
        record {
          some = λ e. v.index.live (v.generation ∙ e);
          generation = v.generation;
          value = at_write_same s.tables.values p.index x place_some (omega (arith, place_within, k.tidy.values));
        })
        (λ t.
        let other : l.ptr.index ≡ p.index → ⊥ = λ e. true≢false (sym (line_here s p l v.generation live e) ∙ t) in
        record {
          some = live.some;
          generation = live.generation;
          value = at_write_other s.tables.values p.index l.ptr.index x other ∙ live.value;
        })

    pub value_kept : Kept C store_with_value (replace_value p x b) ps
    value_kept =
        let f : Line → Line = λ (l : Line). cond (has_ptr p l) (line p x) l in
        record {
          tidy = value_tidy;
          lines =
              record {
                live = λ l y.
                    let r = Memᴰ.of_map f b y in
                    subst (LiveLine store_with_value) r.2 (value_line r.0 (k.lines.live r.0 r.1));
                all = λ i live. map_taken f b i (replace_value_place p x) ∙ k.lines.all i live;
                distinct = distinct_map f b (replace_value_place p x) k.lines.distinct;
              };
          given = given_same s store_with_value ps k.given refl (λ i e. e);
        }
