-- A run keeps the lengths of the tables. Assumes nothing.
use Prim.Native.Nat.{ℕ, zero, suc, ◌-◌}
use mathlib.Core.List.{List}
use mathlib.Core.Bool.{not}
use lib.Dec.{ltb, eqb}
use Rattle.model.specs.Store.{Tables}
use Rattle.model.specs.Sequence.{command_count}
use Rattle.model.specs.Run.{StepOutcome, Running, step_refusal, sequence_step, after_step, steps}
use Rattle.model.specs.declared.State.{State}
use Rattle.model.proofs.Tests.{chosen}
use Rattle.model.specs.declared.Header.{Header}
use Rattle.model.specs.declared.Row.{Row}
use Rattle.model.proofs.Lengths.{AsLong, same, via, lengths_kept}
use Rattle.sequence.specs.LentRun.{beginning, state_of}
use Rattle.sequence.proofs.Running.{Going}

long_step : (t : Tables) (b : List ℕ) (q : State) (n : ℕ) → AsLong (sequence_step t b q n).tables t
unfolding sequence_step
long_step t b q n =
    let long : StepOutcome → Type 0 = λ o. AsLong o.tables t in
    chosen long (not (eqb (step_refusal t b q.next) 0)) (λ e. same t)
    (λ e. chosen long (ltb (command_count b) q.next) (λ f. same t) (λ f. lengths_kept _ _))

pub long_steps : (b : List ℕ) (r : Running) (n : ℕ) → AsLong (steps n b r).tables r.tables
unfolding steps after_step
long_steps b r zero = same r.tables
long_steps b r (suc n) = via (long_step (steps n b r).tables b (steps n b r).state _) (long_steps b r n)

pub going_tables : {J : Type 0} {rows : J → List Row} {written : List Row → J → J} {b : List ℕ} {t₀ : Tables} {first : ℕ} {h₀ : Header} {j₀ : J}
    {t : Tables} {next : ℕ} {h : Header} {j : J} {counts : List (List ℕ)} → Going rows written b t₀ first h₀ j₀ t next h j counts → AsLong t t₀
going_tables {rows} {b} {t₀} {first} {h₀} {j₀} {next} g =
    rw g.ran.tables (long_steps b (beginning t₀ (state_of first h₀) (rows j₀)) (next - first))
