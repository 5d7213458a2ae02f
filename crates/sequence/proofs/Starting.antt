-- A run in general: what its next command leaves, and what an accepted file says of its numbers. Assumes nothing.
use Prim.Native.Nat.{ℕ, ◌+◌, ◌≤◌}
use mathlib.Core.Path.{◌≡◌}
use mathlib.Core.List.{List}
use mathlib.Core.Bool.{not, ◌||◌}
use lib.ListN.{length}
use lib.Dec.{ltb, eqb}
use borrow.Author.Tests.{ltb-false, eqb-false}
use Rattle.std.proofs.lemmas.Bool.{or_parts}
use Rattle.model.specs.Store.{Tables, store}
use Rattle.model.specs.Sequence.{max_places, file_places, command_count, command_at}
use Rattle.model.specs.Refusals.{tables_unfit, wrong_length, wrong_mark, wrong_places}
use Rattle.model.specs.Calls.{Outcome, journaled}
use Rattle.model.specs.Perform.{perform}
use Rattle.model.specs.Run.{Running, raised, call_of, state, step_refusal, after_step}
use Rattle.model.proofs.Tests.{fails, after}
use Rattle.model.proofs.Runs.{Accepts, step_runs}
use Rattle.sequence.proofs.Checks.{count_fits}

-- What the next command leaves, on the store that the run has come to.
abbrev pub performed : List ℕ → Running → Outcome
performed b r = perform (call_of (command_at b r.state.next) (length r.journal)) (store r.tables r.state.header)

-- A step that runs its command.
pub after_command : (b : List ℕ) (r : Running) → Accepts b r → r.state.next ≤ command_count b
    → after_step b r
    ≡ record {
      tables = (performed b r).store.tables;
      state = state (r.state.next + 1) (performed b r).store;
      journal = journaled (performed b r).rows r.journal;
      tally = raised r.tally (command_at b r.state.next).code (performed b r).answer;
    }
unfolding after_step
after_command b r e low = rw (step_runs r.tables b r.state (length r.journal) e low)

-- What an accepted file says of the numbers.
pub record Countable (b : List ℕ) (next : ℕ) : Type 0 where
  pub commands : command_count b ≤ 4095
  pub first : next ≡ 0 → ⊥
  pub last : next ≤ command_count b + 1

pub countable : (b : List ℕ) (t : Tables) (next : ℕ) → step_refusal t b next ≡ 0 → Countable b next
unfolding step_refusal wrong_places
countable b t next e =
    let C = length t.generations in
    let length-right = after (tables_unfit t) _ _ e in
    let places-right = after (wrong_mark b) _ _ (after (wrong_length b) _ _ length-right) in
    let C-wrong = ltb max_places (file_places b) || not (eqb (file_places b) C) in
    let fit = or_parts (C-wrong || eqb next 0) (ltb (command_count b + 1) next) (fails (wrong_places b C next) _ _ places-right) in
    record {
      commands = count_fits b (fails (wrong_length b) _ _ length-right);
      first = eqb-false next 0 (or_parts C-wrong (eqb next 0) fit.0).1;
      last = ltb-false (command_count b + 1) next fit.1;
    }
