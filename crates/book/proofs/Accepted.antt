-- A call that is turned down keeps the invariant, since the store and the book stay as they were; what a call that is
-- not turned down, and not left out, may count on. Assumes nothing.
use Prim.Native.Nat.{ℕ}
use mathlib.Core.Path.{◌≡◌, refl, sym, subst}
use mathlib.Core.List.{List, [], ◌++◌, append-nil}
use mathlib.Core.Bool.{Bool, false}
use lib.Dec.{eqb}
use borrow.Author.Tests.{eqb-true}
use Rattle.std.proofs.lemmas.Bool.{cond_both}
use Rattle.model.specs.Store.{Store}
use Rattle.model.specs.Refusals.{tables_unfit, header_unfit, root_unsound, full_capacity, not_within_capacity}
use Rattle.model.specs.Calls.{Outcome, unless, answered, step, steps_from, clear_step, insert_refusal, insert_reallocating_refusal, removed, drained}
use Rattle.model.specs.declared.Ptr.{Ptr}
use Rattle.model.specs.declared.Row.{Row}
use Rattle.model.specs.declared.GenerationStep.{GenerationStep}
use Rattle.model.specs.Answer.{Answer}
use Rattle.model.proofs.Tests.{chosen_alike, fails, after}
use Rattle.model.proofs.Removals.{removed_overflow}
use Rattle.book.specs.Book.{Line, Effect, entered, gives, fed_by, given_by, refuses}
use Rattle.book.specs.Covered.{overflows, clear_steps}
use Rattle.book.proofs.Kept.{Kept, KeptBy}

-- No handle was given out.
pub kept_none : (C : ℕ) (s : Store) (b : List Line) (ps : List Ptr) → Kept C s b ps → Kept C s b (ps ++ [])
kept_none C s b ps k = subst (Kept C s b) (sym (append-nil ps)) k

-- A generation step's answer is done or overflow; the book is fed the same by either.
pub answered_kept : (C : ℕ) (u : Store) (f : Effect) (over : Bool) (q : Ptr) (v : ℕ) (rows : List Row) (b : List Line) (ps : List Ptr)
    → Kept C u (entered f q rows b) (ps ++ gives f q rows b)
    → Kept C u (fed_by f (answered over q v) rows b) (ps ++ given_by f (answered over q v) rows b)
unfolding answered
answered_kept C u f over q v rows b ps k =
    cond_both over _ _ (λ (a : Answer). Kept C u (fed_by f a rows b) (ps ++ given_by f a rows b)) (λ t. k) (λ t. k)

pub accepted_answered : (over : Bool) (q : Ptr) (v : ℕ) → refuses (answered over q v) ≡ false
unfolding answered
accepted_answered over q v =
    cond_both over _ _ (λ (a : Answer). refuses a ≡ false) (λ t. refl) (λ t. refl)

-- A call that is turned down by n leaves the store and the book as they were; otherwise its work is to keep the
-- invariant.
pub unless_kept : (C : ℕ) (s : Store) (f : Effect) (n : ℕ) (o : Outcome) (b : List Line) (ps : List Ptr) → Kept C s b ps
    → (n ≡ 0 → KeptBy C f o b ps) → KeptBy C f (unless n s o) b ps
unfolding unless
unless_kept C s f n o b ps k w =
    cond_both (eqb n 0) _ _ (λ (u : Outcome). KeptBy C f u b ps) (λ t. w (eqb-true _ _ t)) (λ t. kept_none C s b ps k)

-- The same of a call that may be left out, of which `out` says whether it is: where it is not turned down, it is not
-- left out.
pub unless_covered : (C : ℕ) (s : Store) (f : Effect) (n : ℕ) (o : Outcome) (out : Bool) (b : List Line) (ps : List Ptr) → Kept C s b ps
    → refuses o.answer ≡ false
    → (refuses (unless n s o).answer ≡ false → out ≡ false)
    → (n ≡ 0 → out ≡ false → KeptBy C f o b ps)
    → KeptBy C f (unless n s o) b ps
unfolding unless
unless_covered C s f n o out b ps k a h w = unless_kept C s f n o b ps k (λ e. w e (h (rw e a)))

-- An insertion that is not turned down has room.
pub insert_room : (s : Store) → insert_refusal s ≡ 0 → not_within_capacity s ≡ false
unfolding insert_refusal
insert_room s e = fails _ _ _ (after (root_unsound s) _ _ (after (header_unfit s) _ _ (after (tables_unfit s.tables) _ _ e)))

pub insert_reallocating_room : (s : Store) → insert_reallocating_refusal s ≡ 0 → not_within_capacity s ≡ false
unfolding insert_reallocating_refusal
insert_reallocating_room s e =
    fails _ _ _
    (after (full_capacity s) _ _ (after (root_unsound s) _ _ (after (header_unfit s) _ _ (after (tables_unfit s.tables) _ _ e))))

pub accepted_removed : (s : Store) (p : ℕ) → refuses (removed s p).answer ≡ false
accepted_removed s p = rw (removed_overflow s p) (accepted_answered _ _ _)

pub accepted_drained : (s : Store) (p : ℕ) → refuses (drained s p).answer ≡ false
unfolding drained
accepted_drained s p =
    cond_both (eqb p 0) _ _ (λ (o : Outcome). refuses o.answer ≡ false) (λ t. refl) (λ t. accepted_removed s p)

-- Of one generation step, and of the steps of a clear, none overflows.
pub one_step : (g : ℕ) → overflows g 1 ≡ false → (step g).overflow ≡ false
unfolding overflows steps_from
one_step g e = e

pub clear_step_lem : (s : Store) → overflows s.header.generation (clear_steps s) ≡ false → (clear_step s.header).overflow ≡ false
unfolding clear_step
clear_step_lem s =
    chosen_alike (λ (r : GenerationStep) (n : ℕ). overflows s.header.generation n ≡ false → r.overflow ≡ false)
    (eqb s.header.len 0) (eqb s.header.len 0) refl
    (λ z e. refl)
    (λ z e. one_step _ e)
