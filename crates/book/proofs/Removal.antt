-- The removal of a live place keeps the invariant, whether the place is popped or freed, and whichever call removes
-- it. Assumes nothing.
use Prim.Native.Nat.{ℕ, ◌-◌, ◌≤◌, ◌<◌}
use mathlib.Core.Path.{◌≡◌, refl, sym, ◌∙◌, ap}
use mathlib.Core.List.{List, [], append-nil}
use mathlib.Core.Bool.{true, false, not}
use native.Mathlib.Omega.{arith}
use native.Mathlib.Decide.{ℕ_discrete}
use lib.Dec.{eqb}
use borrow.Author.Tests.{eqb-true, eqb-false, not-true, eq-eqb, ne_eqb}
use Rattle.std.proofs.lemmas.Bool.{cond_both}
use Rattle.model.specs.Store.{Store, header, store, at, write, placed, freed, marks}
use Rattle.model.specs.Freelist.{link_to}
use Rattle.model.specs.Calls.{generation_width, step, answered, ptr_at, removed}
use Rattle.model.specs.declared.Ptr.{Ptr}
use Rattle.model.specs.declared.Header.{Header}
use Rattle.model.proofs.Tests.{tests}
use Rattle.model.proofs.Places.{at_zero, at_write_other}
use Rattle.model.proofs.Width.{step_larger}
use Rattle.model.proofs.Words.{at_write_none}
use Rattle.model.proofs.Changes.{pop_shaped, free_shaped}
use Rattle.book.specs.Book.{Line, Effect, has_ptr, striking, entered, gives, at_index}
use Rattle.book.proofs.Kept.{Tidy, Lines, Kept, KeptBy}
use Rattle.book.proofs.Lines.{taken_line, line_taken, held_line, line_held, distinct_held, holding_same}
use Rattle.book.proofs.Handles.{given_later}
use Rattle.book.proofs.Placing.{Fitting, placed_tidy, stack_low}
use Rattle.book.proofs.Taken.{live_low, line_here, line_elsewhere}

-- A removal writes one mark.
pub removed_marks : (s : Store) (p : ℕ) → marks (removed s p).store ≡ write (marks s) p 0
unfolding removed placed
removed_marks s p = cond_both (eqb p s.header.m) _ _ (λ (u : Store). marks u ≡ write (marks s) p 0) (λ e. refl) (λ e. refl)

-- The line of a place whose message is removed is struck.
freed_lines : (s : Store) (b : List Line) (p l : ℕ) (h : Header) → Lines s b
    → Lines (store (freed s.tables p l) h) (striking (at_index p) b)
unfolding placed
freed_lines s b p l h n =
    record {
      live = λ k x.
          let r = held_line (λ j. not (at_index p j)) b k x in
          let a = n.live k r.0 in
          let d = eqb-false _ _ (not-true _ r.1) in
          record {
            some = a.some;
            generation = at_write_other (marks s) p _ 0 d ∙ a.generation;
            value = at_write_other s.tables.values p _ 0 d ∙ a.value;
          };
      all = λ q x.
          let d : q ≡ p → ⊥ = λ e. x (rw e (at_write_none (marks s) p)) in
          let r = taken_line b q (n.all q (λ z. x (at_write_other (marks s) p q 0 d ∙ z))) in
          let e : r.0.ptr.index ≡ q = r.2 in
          let other : r.0.ptr.index ≡ p → ⊥ = λ z. d (sym e ∙ z) in
          let kept : not (at_index p r.0) ≡ true = simp tests in
          rw (← e) (line_taken (striking (at_index p) b) r.0 (line_held (λ j. not (at_index p j)) b r.0 r.1 kept));
      distinct = distinct_held (λ j. not (at_index p j)) b n.distinct;
    }

-- A live place is popped or freed, and the generation is a later one.
freed_kept : (C : ℕ) (s : Store) (b : List Line) (ps : List Ptr) (p l : ℕ) (h : Header) → Kept C s b ps
    → s.header.generation < h.generation → Fitting C s p 0 l 0 h
    → Kept C (store (freed s.tables p l) h) (striking (at_index p) b) ps
freed_kept C s b ps p l h k later f =
    record {
      tidy = placed_tidy C s p 0 l 0 h k.tidy f;
      lines = freed_lines s b p l h k.lines;
      given = given_later s _ ps k.given later;
    }

-- The last place of the stack is popped, and any other is freed.
popped_fitting : (C : ℕ) (s : Store) (p g : ℕ) → Tidy C s → (at (marks s) p ≡ 0 → ⊥) → p ≡ s.header.m → 2 ≤ g
    → Fitting C s p 0 0 0 (header (s.header.len - 1) (s.header.m - 1) s.header.root g)
popped_fitting C s p g t live last current =
    record {
      some = λ e. live (at_zero (marks s) p e);
      within = omega (arith, stack_low C s t);
      shaped =
          rw last
          (pop_shaped (marks s) s.tables.links s.header.len s.header.m s.header.root 0 0 (rw (← last) live) t.shaped);
      current = current;
      above = λ q d x. omega arith;
      above_free = λ x. refl;
      above_link = λ x. refl;
      live_link = λ x. refl;
      free_value = λ x. refl;
    }

freed_fitting : (C : ℕ) (s : Store) (p g : ℕ) → Tidy C s → (at (marks s) p ≡ 0 → ⊥) → 2 ≤ g
    → Fitting C s p 0 (link_to s.header.root p) 0 (header (s.header.len - 1) s.header.m p g)
freed_fitting C s p g t live current =
    let low = live_low C s p t live in
    record {
      some = λ e. live (at_zero (marks s) p e);
      within = omega (arith, stack_low C s t);
      shaped = free_shaped (marks s) s.tables.links s.header.len s.header.m s.header.root p low live t.shaped;
      current = current;
      above = λ q d x. x;
      above_free = λ x. refl;
      above_link = λ x. absurd (omega arith);
      live_link = λ x. absurd (x refl);
      free_value = λ x. refl;
    }

-- The removal of a live place, with no overflow.
pub removed_kept : (C : ℕ) (s : Store) (b : List Line) (ps : List Ptr) (p : ℕ) → Kept C s b ps → (at (marks s) p ≡ 0 → ⊥)
    → (step s.header.generation).overflow ≡ false → Kept C (removed s p).store (striking (at_index p) b) ps
unfolding removed
removed_kept C s b ps p k live small =
    let t = k.tidy in
    let later = step_larger generation_width s.header.generation small in
    cond_both (eqb p s.header.m) _ _ (λ (u : Store). Kept C u (striking (at_index p) b) ps)
    (λ e. freed_kept C s b ps p 0 _ k later (popped_fitting C s p _ t live (eqb-true _ _ e) (omega arith)))
    (λ e. freed_kept C s b ps p _ _ k later (freed_fitting C s p _ t live (omega arith)))

-- By a call whose effect is that, and which gives no handle.
removed_by : (C : ℕ) (f : Effect) (s : Store) (b : List Line) (ps : List Ptr) (p : ℕ) → Kept C s b ps → (at (marks s) p ≡ 0 → ⊥)
    → (step s.header.generation).overflow ≡ false → entered f (ptr_at s p) [] b ≡ striking (at_index p) b
    → gives f (ptr_at s p) [] b ≡ [] → KeptBy C f (removed s p) b ps
unfolding removed answered
removed_by C f s b ps p k live small struck none =
    rw (small, struck, none, append-nil ps) (removed_kept C s b ps p k live small)

-- `remove_inx`.
pub removed_at : (C : ℕ) (s : Store) (b : List Line) (ps : List Ptr) (p : ℕ) → Kept C s b ps → (at (marks s) p ≡ 0 → ⊥)
    → (step s.header.generation).overflow ≡ false → KeptBy C (Effect.strikes_at p) (removed s p) b ps
unfolding entered gives
removed_at C s b ps p k live small = removed_by C (Effect.strikes_at p) s b ps p k live small refl refl

-- A line has the handle of a live place exactly where it has its index.
struck_alike : (s : Store) (b : List Line) (q : Ptr) → Lines s b → at (marks s) q.index ≡ q.generation
    → striking (has_ptr q) b ≡ striking (at_index q.index) b
struck_alike s b q n now =
    holding_same (λ l. not (has_ptr q l)) (λ l. not (at_index q.index l)) b
    (λ l x.
    elim (ℕ_discrete l.ptr.index q.index) [
      | yes e ↦ ap not (line_here s q l now (n.live l x) e ∙ sym (eq-eqb _ _ e))
      | no d ↦ ap not (line_elsewhere q l d ∙ sym (ne_eqb _ _ d))
    ])

-- Remove, of a handle that is live.
pub removed_ptr : (C : ℕ) (s : Store) (b : List Line) (ps : List Ptr) (q : Ptr) → Kept C s b ps → (at (marks s) q.index ≡ 0 → ⊥)
    → at (marks s) q.index ≡ q.generation → (step s.header.generation).overflow ≡ false
    → KeptBy C (Effect.strikes q) (removed s q.index) b ps
unfolding entered gives
removed_ptr C s b ps q k live now small =
    removed_by C (Effect.strikes q) s b ps q.index k live small (struck_alike s b q k.lines now) refl

-- Drain, where it finds a place.
pub removed_found : (C : ℕ) (s : Store) (b : List Line) (ps : List Ptr) (p : ℕ) → Kept C s b ps → (at (marks s) p ≡ 0 → ⊥)
    → (step s.header.generation).overflow ≡ false → KeptBy C Effect.drains (removed s p) b ps
unfolding entered gives
removed_found C s b ps p k live small =
    let some : p ≡ 0 → ⊥ = λ e. live (at_zero (marks s) p e) in
    removed_by C Effect.drains s b ps p k live small (simp tests (struck_alike s b (ptr_at s p) k.lines refl)) refl
