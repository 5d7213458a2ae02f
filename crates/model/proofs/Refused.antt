-- What a refusal leaves: a refused call changes neither the store nor the journal, and hands cursor and sequence state
-- back as given; but 8 from reserve, and 9 from reserve, transfer and copy, leave the destination ordered. Assumes
-- nothing.
use Prim.Native.Nat.{ℕ, suc, ◌+◌}
use mathlib.Core.Path.{◌≡◌, ap, ◌∙◌}
use mathlib.Core.List.{List, [], ◌∷◌}
use mathlib.Core.Bool.{Bool, true, false, cond, not, ◌||◌}
use lib.Dec.{eqb, ltb}
use native.Mathlib.Omega.{arith}
use borrow.Author.Tests.{eqb-false}
use Rattle.std.proofs.lemmas.Bool.{cond_both}
use Rattle.model.specs.Store.{Tables, Store}
use Rattle.model.specs.Tests.{first_holding}
use Rattle.model.specs.Sequence.{command_count}
use Rattle.model.specs.Refusals.{tables_unfit, header_unfit, count_wrong, beyond_index, beyond_capacity}
use Rattle.model.specs.Calls.{Outcome, BothOutcome, CursorOutcome, outcome, both_outcome, cursor_outcome, unless, unless_both, unless_at, answered, done, inserted, insert, insert_reallocating, removed, remove, remove_index, invalidate, get, put, clear, ordered, order_refusal, order, reserve_refusal, reserve, compress, transfer_refusal, transfer, copy_refusal, copy, store_refusal, sought_in, drain_refusal, advance, drained, drain, find_first, find_last, set_generation, step_generation, audit}
use Rattle.model.specs.Perform.{Call, perform, of_source, of_destination}
use Rattle.model.specs.Run.{step_refusal, fault, unchanged, ran, sequence_step}
use Rattle.model.specs.declared.Ptr.{Ptr}
use Rattle.model.specs.declared.Cursor.{Cursor}
use Rattle.model.specs.declared.State.{State}
use Rattle.model.specs.Answer.{Answer}
use Rattle.model.specs.Answer.{StepAnswer}

-- Whether a call that is refused by number n leaves its store ordered.
abbrev pub leaves_ordered : Call → ℕ → Bool
leaves_ordered (Call.insert v) n = false
leaves_ordered (Call.insert_reallocating v) n = false
leaves_ordered (Call.remove p) n = false
leaves_ordered (Call.remove_index i) n = false
leaves_ordered (Call.invalidate p) n = false
leaves_ordered (Call.get p) n = false
leaves_ordered (Call.put p v) n = false
leaves_ordered Call.clear n = false
leaves_ordered Call.order n = false
leaves_ordered (Call.compress reset rows) n = false
leaves_ordered (Call.reserve places) n = eqb n 8 || eqb n 9
leaves_ordered (Call.transfer_out d g rows) n = false
leaves_ordered (Call.transfer_in t g rows) n = eqb n 9
leaves_ordered (Call.copy_out d) n = false
leaves_ordered (Call.copy_in t) n = eqb n 9
leaves_ordered (Call.advance c) n = false
leaves_ordered (Call.drain c) n = false
leaves_ordered Call.find_first n = false
leaves_ordered Call.find_last n = false
leaves_ordered (Call.set_generation g) n = false
leaves_ordered Call.step_generation n = false
leaves_ordered Call.audit n = false

-- Done or overflow.
data Accepted : Answer → Type 0 where
  is_done : {p : Ptr} {v : ℕ} → Accepted (Answer.Done p v)
  is_overflow : {p : Ptr} {v : ℕ} → Accepted (Answer.Overflow p v)

accepted_answered : (over : Bool) (p : Ptr) (v : ℕ) → Accepted (answered over p v)
unfolding answered
accepted_answered true p v = is_overflow
accepted_answered false p v = is_done

accepted_inserted : (s : Store) (v : ℕ) → Accepted (inserted s v).answer
unfolding inserted
accepted_inserted s v =
    cond_both (eqb s.header.root 0) _ _ (λ (o : Outcome). Accepted o.answer) (λ e. is_done) (λ e. is_done)

accepted_removed : (s : Store) (p : ℕ) → Accepted (removed s p).answer
unfolding removed
accepted_removed s p = accepted_answered _ _ _

accepted_drained : (s : Store) (p : ℕ) → Accepted (drained s p).answer
unfolding drained
accepted_drained s p =
    cond_both (eqb p 0) _ _ (λ (o : Outcome). Accepted o.answer) (λ e. is_done) (λ e. accepted_removed s p)

never_refused : {a : Answer} {n : ℕ} → Accepted a → a ≡ Answer.Refused n → ⊥
never_refused is_done e = let z : ◌≡◌ {A = ℕ} 0 1 = cc in omega arith
never_refused is_overflow e = let z : ◌≡◌ {A = ℕ} 0 1 = cc in omega arith

refused_same : {j k : ℕ} → Answer.Refused j ≡ Answer.Refused k → j ≡ k
refused_same e = cc

-- A refusal by the number n of the first test that holds: the answer has that number, which is not 0.
number_answered : (n k : ℕ) → eqb n 0 ≡ false → Answer.Refused n ≡ Answer.Refused k → (n ≡ k) × (k ≡ 0 → ⊥)
number_answered n k b e = (refused_same e, λ z. eqb-false n 0 b (refused_same e ∙ z))

-- A call whose tests alone turn it down, by n, leaves the store as given.
left_unless : (n k : ℕ) (s : Store) (o : Outcome) → Accepted o.answer → (unless n s o).answer ≡ Answer.Refused k
    → (n ≡ k) × (k ≡ 0 → ⊥) × (unless n s o ≡ outcome (Answer.Refused k) s)
unfolding unless
left_unless n k s o x =
    cond_both (eqb n 0) _ _
    (λ (p : Outcome). p.answer ≡ Answer.Refused k → (n ≡ k) × (k ≡ 0 → ⊥) × (p ≡ outcome (Answer.Refused k) s))
    (λ b e. absurd (never_refused x e))
    (λ b e. let w = number_answered n k b e in (w.0, w.1, ap (λ (a : Answer). outcome a s) e))

-- One with a cursor hands the cursor back as given too.
left_at : (n k : ℕ) (c : Cursor) (s : Store) (o : CursorOutcome) → Accepted o.outcome.answer
    → (unless_at n c s o).outcome.answer ≡ Answer.Refused k
    → (n ≡ k) × (k ≡ 0 → ⊥) × (unless_at n c s o ≡ cursor_outcome c (outcome (Answer.Refused k) s))
unfolding unless_at
left_at n k c s o x =
    cond_both (eqb n 0) _ _
    (λ (p : CursorOutcome).
    p.outcome.answer ≡ Answer.Refused k
    → (n ≡ k) × (k ≡ 0 → ⊥) × (p ≡ cursor_outcome c (outcome (Answer.Refused k) s)))
    (λ b e. absurd (never_refused x e))
    (λ b e. let w = number_answered n k b e in (w.0, w.1, ap (λ (a : Answer). cursor_outcome c (outcome a s)) e))

-- One over two stores leaves the source as given, and the destination as given or, by 9, ordered.
abbrev left_both : Store → Store → ℕ → BothOutcome
left_both d s k = both_outcome (Answer.Refused k) (cond (eqb k 9) (ordered d) d) s

left_both_lem : (n k : ℕ) (d s : Store) (o : BothOutcome) → Accepted o.answer
    → (unless_both n d s o).answer ≡ Answer.Refused k
    → (n ≡ k) × (k ≡ 0 → ⊥) × (unless_both n d s o ≡ left_both d s k)
unfolding unless_both
left_both_lem n k d s o x =
    cond_both (eqb n 0) _ _
    (λ (p : BothOutcome). p.answer ≡ Answer.Refused k → (n ≡ k) × (k ≡ 0 → ⊥) × (p ≡ left_both d s k))
    (λ b e. absurd (never_refused x e))
    (λ b e. let w = number_answered n k b e in (w.0, w.1, ap (left_both d s) w.0))

-- A refused transfer or copy.
pub transfer_refused : (d s : Store) (g rows k : ℕ) → (transfer d s g rows).answer ≡ Answer.Refused k
    → (transfer_refusal d s g rows ≡ k) × (k ≡ 0 → ⊥) × (transfer d s g rows ≡ left_both d s k)
unfolding transfer
transfer_refused d s g rows k e = left_both_lem _ k d s _ is_done e

pub copy_refused : (d s : Store) (k : ℕ) → (copy d s).answer ≡ Answer.Refused k
    → (copy_refusal d s ≡ k) × (k ≡ 0 → ⊥) × (copy d s ≡ left_both d s k)
unfolding copy
copy_refused d s k e = left_both_lem _ k d s _ is_done e

-- A refused advance or drain.
pub advance_refused : (s : Store) (c : Cursor) (k : ℕ) → (advance s c).outcome.answer ≡ Answer.Refused k
    → (store_refusal s ≡ k) × (k ≡ 0 → ⊥) × (advance s c ≡ cursor_outcome c (outcome (Answer.Refused k) s))
unfolding advance
advance_refused s c k e = left_at _ k c s _ is_done e

pub drain_refused : (s : Store) (c : Cursor) (k : ℕ) → (drain s c).outcome.answer ≡ Answer.Refused k
    → (drain_refusal s (sought_in s c).place ≡ k) × (k ≡ 0 → ⊥) × (drain s c ≡ cursor_outcome c (outcome (Answer.Refused k) s))
unfolding drain
drain_refused s c k e = left_at _ k c s _ (accepted_drained s _) e

-- Reserve: what turns order down leaves the store as given, and its own tests leave it ordered.
reserve_refused : (s : Store) (places k : ℕ) → (reserve s places).answer ≡ Answer.Refused k
    → (k ≡ 0 → ⊥) × (reserve s places ≡ outcome (Answer.Refused k) (cond (eqb k 8 || eqb k 9) (ordered s) s))
unfolding reserve order_refusal reserve_refusal unless
reserve_refused s places k =
    go (tables_unfit s.tables) (header_unfit s) (count_wrong s) (beyond_index places) (beyond_capacity s places)
  where
    left : ℕ → Outcome
    left j = outcome (Answer.Refused j) (cond (eqb j 8 || eqb j 9) (ordered s) s)

    reserved : (a b c d e : Bool) → Outcome
    reserved a b c d e =
        unless (first_holding ((1, a) ∷ (2, b) ∷ (4, c) ∷ [])) s
        (unless (first_holding ((8, d) ∷ (9, e) ∷ [])) (ordered s) (outcome done (ordered s)))

    -- The number is one more than j, so not 0.
    by : (j : ℕ) → Answer.Refused (suc j) ≡ Answer.Refused k → (k ≡ 0 → ⊥) × (left (suc j) ≡ left k)
    by j x = (λ z. let f : suc j ≡ 0 = refused_same x ∙ z in omega arith, ap left (refused_same x))

    go : (a b c d e : Bool) → (reserved a b c d e).answer ≡ Answer.Refused k → (k ≡ 0 → ⊥) × (reserved a b c d e ≡ left k)
    go true b c d e x = by 0 x
    go false true c d e x = by 1 x
    go false false true d e x = by 3 x
    go false false false true e x = by 7 x
    go false false false false true x = by 8 x
    go false false false false false x = absurd (never_refused is_done x)

-- Whatever the call, and whatever the store. No refusal has the number 0.
pub refused : (c : Call) (s : Store) (k : ℕ) → (perform c s).answer ≡ Answer.Refused k
    → (k ≡ 0 → ⊥) × (perform c s ≡ outcome (Answer.Refused k) (cond (leaves_ordered c k) (ordered s) s))
unfolding perform insert insert_reallocating remove remove_index invalidate get put clear order compress find_first find_last set_generation step_generation audit
refused (Call.insert v) s k e = let w = left_unless _ k s _ (accepted_inserted s v) e in (w.1, w.2)
refused (Call.insert_reallocating v) s k e = let w = left_unless _ k s _ (accepted_inserted s v) e in (w.1, w.2)
refused (Call.remove p) s k e = let w = left_unless _ k s _ (accepted_removed s _) e in (w.1, w.2)
refused (Call.remove_index i) s k e = let w = left_unless _ k s _ (accepted_removed s i) e in (w.1, w.2)
refused (Call.invalidate p) s k e = let w = left_unless _ k s _ (accepted_answered _ _ _) e in (w.1, w.2)
refused (Call.get p) s k e = let w = left_unless _ k s _ is_done e in (w.1, w.2)
refused (Call.put p v) s k e = let w = left_unless _ k s _ is_done e in (w.1, w.2)
refused Call.clear s k e = let w = left_unless _ k s _ (accepted_answered _ _ _) e in (w.1, w.2)
refused Call.order s k e = let w = left_unless _ k s _ is_done e in (w.1, w.2)
refused (Call.compress reset rows) s k e = let w = left_unless _ k s _ (accepted_answered _ _ _) e in (w.1, w.2)
refused (Call.reserve places) s k e = reserve_refused s places k e
refused (Call.transfer_out d g rows) s k e = let w = transfer_refused d s g rows k e in (w.1, ap of_source w.2)
refused (Call.transfer_in t g rows) s k e = let w = transfer_refused s t g rows k e in (w.1, ap of_destination w.2)
refused (Call.copy_out d) s k e = let w = copy_refused d s k e in (w.1, ap of_source w.2)
refused (Call.copy_in t) s k e = let w = copy_refused s t k e in (w.1, ap of_destination w.2)
refused (Call.advance c) s k e = let w = advance_refused s c k e in (w.1, ap (λ (o : CursorOutcome). o.outcome) w.2)
refused (Call.drain c) s k e = let w = drain_refused s c k e in (w.1, ap (λ (o : CursorOutcome). o.outcome) w.2)
refused Call.find_first s k e = let w = left_unless _ k s _ is_done e in (w.1, w.2)
refused Call.find_last s k e = let w = left_unless _ k s _ is_done e in (w.1, w.2)
refused (Call.set_generation g) s k e = let w = left_unless _ k s _ is_done e in (w.1, w.2)
refused Call.step_generation s k e = let w = left_unless _ k s _ (accepted_answered _ _ _) e in (w.1, w.2)
refused Call.audit s k e = let w = left_unless _ k s _ is_done e in (w.1, w.2)

-- The step ran no command.
pub data Idle : StepAnswer → Type 0 where
  was_turned_down : {n c : ℕ} → Idle (StepAnswer.TurnedDown n c)
  was_past_the_last : Idle StepAnswer.End

never_ran : {a : Answer} {x : StepAnswer} → Idle x → StepAnswer.Ran a ≡ x → ⊥
never_ran was_turned_down e = let z : ◌≡◌ {A = ℕ} 0 1 = cc in omega arith
never_ran was_past_the_last e = let z : ◌≡◌ {A = ℕ} 0 1 = cc in omega arith

-- A step that is turned down, or past the last command, hands the state back as given and changes nothing.
pub step_unchanged : (t : Tables) (b : List ℕ) (q : State) (rows : ℕ) {a : StepAnswer} → Idle a
    → (sequence_step t b q rows).answer ≡ a → sequence_step t b q rows ≡ unchanged a t q
unfolding sequence_step
step_unchanged t b q rows {a} r =
    go (step_refusal t b q.next) _ (not (eqb (step_refusal t b q.next) 0)) (ltb (command_count b) q.next)
  where
    go : (n : ℕ) (o : Outcome) (x y : Bool)
        → (cond x (unchanged (StepAnswer.TurnedDown n (fault b n)) t q) (cond y (unchanged StepAnswer.End t q) (ran (q.next + 1) o))).answer ≡ a
        → cond x (unchanged (StepAnswer.TurnedDown n (fault b n)) t q) (cond y (unchanged StepAnswer.End t q) (ran (q.next + 1) o)) ≡ unchanged a t q
    go n o true y e = ap (λ (w : StepAnswer). unchanged w t q) e
    go n o false true e = ap (λ (w : StepAnswer). unchanged w t q) e
    go n o false false e = absurd (never_ran r e)
