-- An insertion keeps the invariant, whether it takes the root or pushes a place. Assumes nothing.
use Prim.Native.Nat.{ℕ, ◌+◌, ◌≤◌, ◌<◌}
use mathlib.Core.Path.{◌≡◌, refl, sym, ◌∙◌}
use mathlib.Core.List.Memᴰ
use mathlib.Core.List.{List, [], ◌∷◌, ◌++◌}
use mathlib.Core.Logic.{inl, inr}
use mathlib.Core.Bool.{false}
use native.Mathlib.Omega.{arith}
use native.Mathlib.Decide.{ℕ_discrete}
use lib.ListN.{length}
use lib.Dec.{eqb}
use borrow.Author.Tests.{eqb-true, eqb-false}
use Rattle.std.proofs.lemmas.Bool.{cond_both}
use Rattle.model.specs.Store.{Store, store, ptr, at, write, placed, filled, capacity, marks}
use Rattle.model.specs.Refusals.{not_within_capacity}
use Rattle.model.specs.Calls.{Outcome, outcome, inserted}
use Rattle.model.specs.declared.Ptr.{Ptr}
use Rattle.model.specs.declared.Header.{Header}
use Rattle.model.specs.Answer.{Answer}
use Rattle.model.proofs.Tests.{tests}
use Rattle.model.proofs.Places.{length_write, at_write_same, at_write_other}
use Rattle.model.proofs.Shape.{Shaped, shaped_root}
use Rattle.model.proofs.Changes.{push_shaped, take_shaped}
use Rattle.book.specs.Book.{Line, Effect, line, taken, entered, gives}
use Rattle.book.proofs.Kept.{Tidy, Lines, Given, Kept, KeptBy}
use Rattle.book.proofs.Taken.{line_live, free_untaken}
use Rattle.book.proofs.Handles.{given_same, given_one, given_more, not_given}
use Rattle.book.proofs.Placing.{placed_tidy, current_some}

-- A message at a place that was free: the book has a line more.
filled_lines : (s : Store) (b : List Line) (i g v : ℕ) (h : Header) → Lines s b → at (marks s) i ≡ 0 → (i ≡ 0 → ⊥) → (g ≡ 0 → ⊥)
    → i ≤ length (marks s) → i ≤ length s.tables.values → Lines (store (filled s.tables i g v) h) (line (ptr i g) v ∷ b)
unfolding placed taken
filled_lines s b i g v h n free some live low within =
    record {
      live = λ l x.
          elim (Memᴰ.cases_cons x) [
            | inl e ↦
                rw e
                (record {
                  some = live;
                  generation = at_write_same (marks s) i g some low;
                  value = at_write_same s.tables.values i v some within;
                })
            | inr y ↦
                let a = n.live l y in
                let d : l.ptr.index ≡ i → ⊥ = λ e. line_live s b l n y (rw e free) in
                record {
                  some = a.some;
                  generation = at_write_other (marks s) i _ g d ∙ a.generation;
                  value = at_write_other s.tables.values i _ v d ∙ a.value;
                }
          ];
      all = λ p x.
          elim (ℕ_discrete i p) [
            | yes e ↦ simp tests
            | no d ↦ simp tests (n.all p (λ z. x (at_write_other (marks s) i p g (λ e. d (sym e)) ∙ z)))
          ];
      distinct = (free_untaken s b i n free, n.distinct);
    }

-- Its handle was not given before, and is now.
filled_given : (s : Store) (ps : List Ptr) (i v : ℕ) (h : Header) → Given s ps → at (marks s) i ≡ 0 → (i ≡ 0 → ⊥)
    → (s.header.generation ≡ 0 → ⊥) → i ≤ length (marks s) → h.generation ≡ s.header.generation
    → Given (store (filled s.tables i s.header.generation v) h) (ps ++ (ptr i s.header.generation ∷ []))
unfolding placed
filled_given s ps i v h given free some live low same =
    let g = s.header.generation in
    let u = store (filled s.tables i g v) h in
    given_more u ps (ptr i g ∷ [])
    (given_same s u ps given same
    (λ p e. at_write_other (marks s) i p g (λ z. live (sym e ∙ rw z free)) ∙ e))
    (given_one u (ptr i g) (omega arith) (at_write_same (marks s) i g some low))
    (λ p x y.
    not_given s ps (ptr i g) given refl (λ e. live (sym e ∙ free)) (rw (← Memᴰ.eq_of_singleton y) x))

-- A place that was free is filled, and is then in the stack, which no place leaves.
filled_kept : (C : ℕ) (s : Store) (b : List Line) (ps : List Ptr) (i v : ℕ) (h : Header) → Kept C s b ps → at (marks s) i ≡ 0
    → (i ≡ 0 → ⊥) → i ≤ h.m → s.header.m ≤ h.m → h.generation ≡ s.header.generation
    → Shaped (write (marks s) i s.header.generation) (write s.tables.links i 0) h.len h.m h.root
    → KeptBy C (Effect.adds v)
    (outcome (Answer.Done (ptr i s.header.generation) v) (store (filled s.tables i s.header.generation v) h)) b ps
unfolding entered gives
filled_kept C s b ps i v h k free some low more same shaped =
    let g = s.header.generation in
    let t = k.tidy in
    let live = current_some C s t in
    let within : i ≤ C = omega (arith, shaped.within, length_write (marks s) i g) in
    record {
      tidy =
          placed_tidy C s i g 0 v h t
          (record {
            some = some;
            within = within;
            shaped = shaped;
            current = omega arith;
            above = λ p d q. omega arith;
            above_free = λ q. absurd (omega arith);
            above_link = λ q. refl;
            live_link = λ q. refl;
            free_value = λ e. absurd (live e);
          });
      lines = filled_lines s b i g v h k.lines free some live (omega arith) (omega arith);
      given = filled_given s ps i v h k.given free some live (omega arith) same;
    }

-- Without a root, a store within capacity has room on its stack.
has_room : (C : ℕ) (s : Store) → Tidy C s → not_within_capacity s ≡ false → s.header.root ≡ 0 → s.header.m < length (marks s)
unfolding not_within_capacity
has_room C s t e none =
    let full : s.header.m ≡ capacity s → ⊥ = eqb-false _ _ (simp tests at e) in
    omega (arith, t.shaped.within)

-- An insertion within capacity: place m + 1 is pushed, or the root takes the message.
pub inserted_kept : (C : ℕ) (s : Store) (b : List Line) (ps : List Ptr) (v : ℕ) → Kept C s b ps → not_within_capacity s ≡ false
    → KeptBy C (Effect.adds v) (inserted s v) b ps
unfolding inserted
inserted_kept C s b ps v k e =
    let h = s.header in
    let t = k.tidy in
    let live = current_some C s t in
    cond_both (eqb h.root 0) _ _ (λ (o : Outcome). KeptBy C (Effect.adds v) o b ps)
    (λ x.
    let none = eqb-true _ _ x in
    filled_kept C s b ps (h.m + 1) v _ k (t.above_free _ (omega arith)) (λ z. omega arith) (omega arith) (omega arith) refl
    (push_shaped (marks s) s.tables.links h.len h.m 0 h.generation 0 live (has_room C s t e none) (rw (← none) t.shaped)))
    (λ x.
    let some = eqb-false _ _ x in
    let r = (shaped_root (marks s) s.tables.links h.len h.m h.root t.shaped some).free in
    filled_kept C s b ps h.root v _ k r.free some r.low (omega arith) refl
    (take_shaped (marks s) s.tables.links h.len h.m h.root h.generation 0 live some t.shaped))
