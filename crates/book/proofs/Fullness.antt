-- Each of the C places is taken exactly when the store has no root and m is C, and that is exactly when an insertion
-- is refused. Assumes nothing.
use Prim.Native.Nat.{ℕ, zero, suc, ◌≤◌}
use mathlib.Core.Path.{◌≡◌, refl, ◌∙◌, subst, sym}
use mathlib.Core.List.{List}
use mathlib.Core.Bool.{Bool, true, false, ◌&&◌, cond, false≢true}
use native.Mathlib.Omega.{arith}
use native.Mathlib.Decide.{ℕ_discrete}
use lib.Dec.{eqb}
use Rattle.std.proofs.lemmas.Bool.{cond_both}
use Rattle.model.specs.Store.{Store, capacity, marks}
use Rattle.model.specs.Refusals.{not_within_capacity, full_capacity}
use Rattle.model.specs.Calls.{Outcome, unless, inserted, insert_refusal, insert_reallocating_refusal, insert, insert_reallocating}
use Rattle.model.specs.Perform.{Call, perform}
use Rattle.model.proofs.Tests.{tests}
use Rattle.model.proofs.Count.{full_all_live}
use Rattle.model.proofs.Shape.{Shaped, shaped_full, shaped_root}
use Rattle.book.specs.Book.{Line, taken, all_taken, effect, inserts, refuses}
use Rattle.book.proofs.Kept.{Tidy, Lines}
use Rattle.book.proofs.Taken.{free_untaken}
use Rattle.book.proofs.Tested.{tidy_tables, tidy_header, tidy_root}

-- Where each of the places 1 to n is taken, all are.
pub each_taken : (b : List Line) (n : ℕ) → ((p : ℕ) → (p ≡ 0 → ⊥) → p ≤ n → taken b p ≡ true) → all_taken b n ≡ true
unfolding all_taken
each_taken b zero h = refl
each_taken b (suc n) h =
    rw (each_taken b n (λ p some q. h p some (omega arith)), h (suc n) (λ e. omega arith) (omega arith)) refl

-- Where one of them is not, not all are.
pub one_untaken : (b : List Line) (n p : ℕ) → (p ≡ 0 → ⊥) → p ≤ n → taken b p ≡ false → all_taken b n ≡ false
unfolding all_taken
one_untaken b zero p some h e = absurd (omega arith)
one_untaken b (suc n) p some h e =
    elim (ℕ_discrete p (suc n)) [
      | yes s ↦ rw (← s, e) (never (all_taken b n))
      | no d ↦ rw (one_untaken b n p some (omega arith) e) refl
    ]
  where
    never : (c : Bool) → c && false ≡ false
    never true = refl
    never false = refl

-- A tidy store without a root has no free place in its stack.
pub rootless_full : (C : ℕ) (s : Store) → Tidy C s → s.header.root ≡ 0 → s.header.len ≡ s.header.m
rootless_full C s t e =
    shaped_full _ _ _ _
    (subst (λ (r : ℕ). Shaped (marks s) s.tables.links s.header.len s.header.m r) e t.shaped)

-- All places are taken exactly when there is no root and m is C.
pub all_taken_lem : (C : ℕ) (s : Store) (b : List Line) → Tidy C s → Lines s b → all_taken b C ≡ not_within_capacity s
unfolding not_within_capacity
all_taken_lem C s b t h =
    let long = t.generations in
    let within = t.shaped.within in
    elim (ℕ_discrete s.header.root 0) [
      | no d ↦
          let r = (shaped_root _ _ _ _ _ t.shaped d).free in
          simp tests (one_untaken b C s.header.root d (omega (arith, r.low)) (free_untaken s b _ h r.free))
      | yes e ↦
          elim (ℕ_discrete s.header.m (capacity s)) [
            | yes f ↦
                let full = t.shaped.count ∙ rootless_full C s t e in
                simp tests (each_taken b C (λ p some q. h.all p (full_all_live _ _ p full some (omega arith))))
            | no d ↦
                simp tests
                (one_untaken b C C (λ z. d (omega arith)) (omega arith) (free_untaken s b C h (t.above_free C (omega arith))))
          ]
    ]

-- `len` is C exactly then.
pub full_capacity_lem : (C : ℕ) (s : Store) → Tidy C s → full_capacity s ≡ not_within_capacity s
unfolding not_within_capacity
full_capacity_lem C s t =
    elim (ℕ_discrete s.header.root 0) [
      | yes e ↦ rw (rootless_full C s t e) (simp tests)
      | no d ↦
          let few : s.header.len ≡ capacity s → ⊥ = λ z. omega (arith, (shaped_root _ _ _ _ _ t.shaped d).short, t.shaped.within) in
          simp tests
    ]

-- Insert is refused exactly where its last test, for room, holds.
accepts_inserted : (s : Store) (v : ℕ) → refuses (inserted s v).answer ≡ false
unfolding inserted
accepts_inserted s v =
    cond_both (eqb s.header.root 0) _ _ (λ (o : Outcome). refuses o.answer ≡ false) (λ t. refl) (λ t. refl)

refused_where : (s : Store) (o : Outcome) (full : Bool) (j x : ℕ) → (full ≡ false → x ≡ 0) → refuses o.answer ≡ false
    → refuses (unless (cond full (suc j) x) s o).answer ≡ full
unfolding unless
refused_where s o true j x none a = let some : suc j ≡ 0 → ⊥ = λ e. omega arith in simp tests
refused_where s o false j x none a = rw (none refl) a

pub insert_refused : (C : ℕ) (s : Store) (v : ℕ) → Tidy C s → refuses (insert s v).answer ≡ not_within_capacity s
unfolding insert insert_refusal
insert_refused C s v t =
    rw (tidy_tables C s t, tidy_header C s t, tidy_root C s t) (refused_where s (inserted s v) (not_within_capacity s) 6 0 (λ e. refl) (accepts_inserted s v))

-- `insert_reallocating` tests 9 before it, which holds where it does.
pub insert_reallocating_refused : (C : ℕ) (s : Store) (v : ℕ) → Tidy C s → refuses (insert_reallocating s v).answer ≡ not_within_capacity s
unfolding insert_reallocating insert_reallocating_refusal
insert_reallocating_refused C s v t =
    rw (tidy_tables C s t, tidy_header C s t, tidy_root C s t, full_capacity_lem C s t)
    (refused_where s (inserted s v) (not_within_capacity s) 8 (cond (not_within_capacity s) 7 0) (λ e. rw e refl) (accepts_inserted s v))

module _ (C : ℕ) (s : Store) (b : List Line) (t : Tidy C s) (h : Lines s b) where
  -- An insertion, by either name, is refused exactly when every place is taken.
  pub call_full : (c : Call) → inserts (effect c) ≡ true → refuses (perform c s).answer ≡ all_taken b C
  unfolding inserts effect perform
  call_full (Call.insert v) e = insert_refused C s v t ∙ sym (all_taken_lem C s b t h)
  call_full (Call.insert_reallocating v) e = insert_reallocating_refused C s v t ∙ sym (all_taken_lem C s b t h)
  call_full (Call.remove p) e = absurd (false≢true e)
  call_full (Call.remove_index i) e = absurd (false≢true e)
  call_full (Call.invalidate p) e = absurd (false≢true e)
  call_full (Call.get p) e = absurd (false≢true e)
  call_full (Call.put p v) e = absurd (false≢true e)
  call_full Call.clear e = absurd (false≢true e)
  call_full Call.order e = absurd (false≢true e)
  call_full (Call.compress reset n) e = absurd (false≢true e)
  call_full (Call.reserve n) e = absurd (false≢true e)
  call_full (Call.transfer_out d g n) e = absurd (false≢true e)
  call_full (Call.transfer_in d g n) e = absurd (false≢true e)
  call_full (Call.copy_out d) e = absurd (false≢true e)
  call_full (Call.copy_in d) e = absurd (false≢true e)
  call_full (Call.advance c) e = absurd (false≢true e)
  call_full (Call.drain c) e = absurd (false≢true e)
  call_full Call.find_first e = absurd (false≢true e)
  call_full Call.find_last e = absurd (false≢true e)
  call_full (Call.set_generation g) e = absurd (false≢true e)
  call_full Call.step_generation e = absurd (false≢true e)
  call_full Call.audit e = absurd (false≢true e)
