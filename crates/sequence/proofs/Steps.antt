-- The steps of a run: the number of each, the lengths of its tables and of its tally. Assumes nothing.
use Prim.Native.Nat.{ℕ, zero, suc, ◌+◌, ◌-◌, ◌^◌, ◌≤◌, ◌<◌}
use mathlib.Core.Path.{◌≡◌, refl, ap, ◌∙◌}
use mathlib.Core.List.{List}
use native.Mathlib.Omega.{arith}
use lib.ListN.{length, length-set}
use Rattle.model.specs.Store.{Tables}
use Rattle.model.specs.Sequence.{command_count, command_at}
use Rattle.model.specs.Run.{Running, raised, tallied, next_step, after_step, steps, step_refusal}
use Rattle.model.specs.Answer.{Answer, StepAnswer}
use Rattle.model.specs.declared.State.{State}
use Rattle.model.specs.declared.Row.{Row}
use Rattle.model.proofs.Runs.{Accepts, never_turned_down}
use Rattle.sequence.proofs.Starting.{after_command, countable}
use Rattle.sequence.specs.LentRun.{beginning}

-- Each step runs one command, so that the number after k of them is k higher.
pub number_after : (b : List ℕ) (r : Running) → Accepts b r → (k : ℕ) → k ≤ command_count b + 1 - r.state.next
    → (steps k b r).state.next ≡ r.state.next + k
unfolding steps
number_after b r e zero h = omega arith
number_after b r e (suc k) h =
    let before = number_after b r e k (omega arith) in
    ap (λ (x : Running). x.state.next) (after_command b (steps k b r) (never_turned_down b r e k) (omega arith)) ∙ omega arith

pub has_command : (b : List ℕ) (r : Running) → Accepts b r → (k : ℕ) → k < command_count b + 1 - r.state.next
    → (steps k b r).state.next ≤ command_count b
has_command b r e k h = omega (arith, number_after b r e k (omega arith))

-- The next step of a run that is not turned down has a command, over a file that was checked.
pub next_asks : (t : Tables) (b : List ℕ) (q : State) (rows : List Row) → step_refusal t b q.next ≡ 0
    → (i : ℕ) → i < command_count b + 1 - q.next
    → let r = steps i b (beginning t q rows) in
    (step_refusal r.tables b r.state.next ≡ 0) × (r.state.next ≤ command_count b)
next_asks t b q rows e i h = (never_turned_down b (beginning t q rows) e i, has_command b (beginning t q rows) e i h)

-- There are few of them.
pub few_steps : (t : Tables) (b : List ℕ) (q : State) → step_refusal t b q.next ≡ 0 → command_count b + 1 - q.next < 2 ^ 32 - 1
few_steps t b q e = omega (arith, (countable b t q.next e).commands)

-- A tally keeps its length.
raised_as_long : (tally : List (List ℕ)) (code : ℕ) (a : Answer) → length (raised tally code a) ≡ length tally
unfolding raised
raised_as_long tally zero a = refl
raised_as_long tally (suc n) a = length-set tally n _

tallied_as_long : (tally : List (List ℕ)) (code : ℕ) (a : StepAnswer) → length (tallied tally code a) ≡ length tally
tallied_as_long tally code (StepAnswer.TurnedDown n c) = refl
tallied_as_long tally code StepAnswer.End = refl
tallied_as_long tally code (StepAnswer.Ran a) = raised_as_long tally code a

tally_as_long : (b : List ℕ) (r : Running) (k : ℕ) → length (steps k b r).tally ≡ length r.tally
unfolding steps after_step
tally_as_long b r zero = refl
tally_as_long b r (suc k) =
    let s = steps k b r in
    tallied_as_long s.tally (command_at b s.state.next).code (next_step b s).answer ∙ tally_as_long b r k

pub long_tally : (t : Tables) (b : List ℕ) (q : State) (rows : List Row) (i : ℕ) → length (steps i b (beginning t q rows)).tally ≡ 10
long_tally t b q rows i = tally_as_long b (beginning t q rows) i
