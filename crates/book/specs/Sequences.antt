-- The claim for a sequence: a file that is accepted, run from a new store. After each step every handle shows its
-- line's value or a refusal.
use Rattle.std.specs.Prelude.{ℕ, zero, suc, ◌≤◌, ◌<◌, ◌≡◌, List, [], ◌∷◌, false, length}
use Rattle.model.specs.Store.{Store, no_ptr, store, new}
use Rattle.model.specs.Sequence.{command_at, command_count}
use Rattle.model.specs.Calls.{row, get}
use Rattle.model.specs.Perform.{Call}
use Rattle.model.specs.Run.{Running, StepOutcome, call_of, state, next_step, steps, step_refusal, run, no_tally}
use Rattle.model.specs.declared.Ptr.{Ptr}
use Rattle.model.specs.declared.Row.{Row}
use Rattle.book.specs.Book.{Line, effect, fed_by, refuses, lookup, shown}
use Rattle.book.specs.Machine.{called}
use Rattle.book.specs.Covered.{left_out}

-- A run's start: a new store of C places, next number 1, this journal.
abbrev pub started : ℕ → List Row → Running
started C journal = record { tables = (new C).tables; state = state 1 (new C); journal = journal; tally = no_tally }

-- What a run of the file f has come to after n steps, its store then, and what step n + 1 leaves.
abbrev pub ran_to : ℕ → List ℕ → List Row → ℕ → Running
ran_to C f journal n = steps n f (started C journal)

abbrev pub store_at : ℕ → List ℕ → List Row → ℕ → Store
store_at C f journal n = store (ran_to C f journal n).tables (ran_to C f journal n).state.header

abbrev pub step_after : ℕ → List ℕ → List Row → ℕ → StepOutcome
step_after C f journal n = next_step f (ran_to C f journal n)

-- The call of command n + 1.
abbrev pub call_from : List ℕ → List Row → ℕ → Call
call_from f journal n = call_of (command_at f (suc n)) (length journal)

-- The book after n steps, fed from each command, its answer and its rows.
unfoldable pub book_at : ℕ → List ℕ → List Row → ℕ → List Line
book_at C f journal zero = []
book_at C f journal (suc n) =
    let o = step_after C f journal n in
    fed_by (effect (call_from f journal n)) (called o.answer) o.rows (book_at C f journal n)

-- A run of an accepted file in which none of the first n commands is left out, unless it is refused.
pub record CoveredRun (C : ℕ) (f : List ℕ) (journal : List Row) (n : ℕ) : Type 0 where
  pub accepted : step_refusal (new C).tables f 1 ≡ 0
  pub within : n ≤ command_count f
  pub covered :
      (k : ℕ) → k < n → refuses (called (step_after C f journal k).answer) ≡ false
      → left_out (call_from f journal k) (store_at C f journal k) ≡ false

-- After its n steps a get of any handle shows its line's value, or a refusal where no line has it.
unfoldable pub SequenceClaim : Type 0
SequenceClaim =
    (C : ℕ) (f : List ℕ) (journal : List Row) (n : ℕ) → CoveredRun C f journal n
    → (p : Ptr) → shown (get (store_at C f journal n) p).answer ≡ lookup p (book_at C f journal n)

-- A whole run of an accepted file is not turned down, and ends after its last command.
unfoldable pub AcceptedRunsEnd : Type 0
AcceptedRunsEnd =
    (C : ℕ) (f : List ℕ) (journal : List Row) → step_refusal (new C).tables f 1 ≡ 0
    → run (new C).tables f (state 1 (new C)) journal
    ≡ record { refusal = 0; fault = 0; running = ran_to C f journal (command_count f) }

-- There are runs that the claim is about: of this file, for one place, with the commands insert 10 and compress, and a
-- journal of one row.
abbrev pub sample : List ℕ
sample =
    84 ∷ 84 ∷ 83 ∷ 1 ∷ 0 ∷ 1 ∷ 0 ∷ 0
    ∷ 1 ∷ 0 ∷ 0 ∷ 0 ∷ 0 ∷ 0 ∷ 0 ∷ 0 ∷ 10 ∷ 0 ∷ 0 ∷ 0 ∷ 0 ∷ 0 ∷ 0 ∷ 0
    ∷ 7 ∷ 0 ∷ 0 ∷ 0 ∷ 0 ∷ 0 ∷ 0 ∷ 0 ∷ 0 ∷ 0 ∷ 0 ∷ 0 ∷ 0 ∷ 0 ∷ 0 ∷ 0
    ∷ []

abbrev pub one_row : List Row
one_row = row no_ptr no_ptr false ∷ []
