-- A run over a file that is accepted at its first step is never turned down, and what each of its steps leaves.
-- Assumes nothing.
use Prim.Native.Nat.{ℕ, zero, suc, ◌+◌, ◌≤◌, ◌<◌}
use mathlib.Core.Path.{◌≡◌, refl, sym, ◌∙◌}
use mathlib.Core.List.{List}
use mathlib.Core.Bool.{false, not, ◌||◌}
use native.Mathlib.Omega.{arith}
use native.Mathlib.Decide.{dec_le}
use lib.ListN.{length}
use lib.Seq.{length-sets}
use lib.Dec.{ltb, eqb}
use Rattle.std.proofs.lemmas.Bool.{or_parts}
use Rattle.model.specs.Store.{Tables, store}
use Rattle.model.specs.Sequence.{max_places, file_places, command_count, command_at}
use Rattle.model.specs.Refusals.{tables_unfit, wrong_length, wrong_mark, wrong_places}
use Rattle.model.specs.Perform.{perform}
use Rattle.model.specs.Run.{Running, call_of, fault, step_refusal, sequence_step, next_step, after_step, steps, unchanged, ran}
use Rattle.model.specs.declared.State.{State}
use Rattle.model.specs.Answer.{StepAnswer}
use Rattle.model.proofs.Tests.{tests, fails, after}
use Rattle.model.proofs.Lengths.{AsLong, lengths_kept}

-- The next step of this run is not turned down.
abbrev pub Accepts : List ℕ → Running → Type 0
Accepts f r = step_refusal r.tables f r.state.next ≡ 0

-- Tables as long are turned down by the same number.
pub refusal_as_long : (t u : Tables) (f : List ℕ) (n : ℕ) → AsLong t u → step_refusal t f n ≡ step_refusal u f n
unfolding step_refusal tables_unfit
refusal_as_long t u f n a = rw (a.generations, a.links, a.values) refl

-- 12: where it fails at one next number, it fails at any from 1 to one past the last command.
places_in_range : (f : List ℕ) (C n k : ℕ) → wrong_places f C n ≡ false → (k ≡ 0 → ⊥) → k ≤ command_count f + 1
    → wrong_places f C k ≡ false
unfolding wrong_places
places_in_range f C n k e some low =
    let right : ltb max_places (file_places f) || not (eqb (file_places f) C) ≡ false = (or_parts _ _ (or_parts _ _ e).0).0 in
    simp (tests, right)

-- An accepted file is accepted at any number from 1 to one past its last command.
pub refusal_in_range : (t : Tables) (f : List ℕ) (n k : ℕ) → step_refusal t f n ≡ 0 → (k ≡ 0 → ⊥) → k ≤ command_count f + 1
    → step_refusal t f k ≡ 0
unfolding step_refusal
refusal_in_range t f n k e some low =
    let right = fails (wrong_places f _ n) _ _ (after (wrong_mark f) _ _ (after (wrong_length f) _ _ (after (tables_unfit t) _ _ e))) in
    rw (places_in_range f (length t.generations) n k right some low ∙ sym right) e

-- A step that is turned down changes nothing.
pub step_turned_down : (t : Tables) (f : List ℕ) (q : State) (rows : ℕ) → (step_refusal t f q.next ≡ 0 → ⊥)
    → sequence_step t f q rows
    ≡ unchanged (StepAnswer.TurnedDown (step_refusal t f q.next) (fault f (step_refusal t f q.next))) t q
unfolding sequence_step
step_turned_down t f q rows d = simp tests

-- A step that is not turned down, at a number up to the last command's, runs that command.
pub step_runs : (t : Tables) (f : List ℕ) (q : State) (rows : ℕ) → step_refusal t f q.next ≡ 0 → q.next ≤ command_count f
    → sequence_step t f q rows ≡ ran (q.next + 1) (perform (call_of (command_at f q.next) rows) (store t q.header))
unfolding sequence_step
step_runs t f q rows e low = simp (tests, e)

-- Past the last command it changes nothing.
pub step_ends : (t : Tables) (f : List ℕ) (q : State) (rows : ℕ) → step_refusal t f q.next ≡ 0 → command_count f < q.next
    → sequence_step t f q rows ≡ unchanged StepAnswer.End t q
unfolding sequence_step
step_ends t f q rows e high = simp (tests, e)

-- After a step that is not turned down, the next one is not either.
accepted_next : (f : List ℕ) (r : Running) → Accepts f r → Accepts f (after_step f r)
unfolding after_step
accepted_next f r e =
    let call = call_of (command_at f r.state.next) (length r.journal) in
    let kept = refusal_as_long _ _ f r.state.next (lengths_kept call (store r.tables r.state.header)) in
    elim (dec_le r.state.next (command_count f)) [
      | yes low ↦
          rw (step_runs r.tables f r.state (length r.journal) e low)
          (refusal_in_range _ f r.state.next _ (kept ∙ e) (λ z. omega arith) (omega arith))
      | no high ↦ rw (step_ends r.tables f r.state (length r.journal) e (omega arith)) e
    ]

-- A run whose first step is not turned down is never turned down.
pub never_turned_down : (f : List ℕ) (r : Running) → Accepts f r → (n : ℕ) → Accepts f (steps n f r)
unfolding steps
never_turned_down f r e zero = e
never_turned_down f r e (suc n) = accepted_next f (steps n f r) (never_turned_down f r e n)

-- A run keeps the journal's length.
pub journal_as_long : (f : List ℕ) (r : Running) (n : ℕ) → length (steps n f r).journal ≡ length r.journal
unfolding steps after_step
journal_as_long f r zero = refl
journal_as_long f r (suc n) = length-sets (steps n f r).journal 0 (next_step f (steps n f r)).rows ∙ journal_as_long f r n
