-- Section "The sequence file", the run: how it begins, and what it leaves with the journal lent as columns.
use Rattle.std.specs.Prelude.{◌≡◌, ℕ, List, refl}
use Rattle.model.specs.Store.{Tables}
use Rattle.model.specs.Run.{Running, RunOutcome, no_tally}
use Rattle.model.specs.declared.Header.{Header}
use Rattle.model.specs.declared.State.{State}
use Rattle.model.specs.declared.Row.{Row}
use Rattle.arena.specs.Columns.{Columns, written}
use Rattle.arena.specs.Lent.{columns_of, columns_written}
use Rattle.arena.specs.Laws.{columns_written_is}
use Rattle.arena.specs.declared.journal.Columns as lent

-- A state of the next number and the header.
abbrev pub state_of : ℕ → Header → State
state_of next h = record { next = next; header = h }

-- A run that is about to begin, with the rows of its journal.
abbrev pub beginning : Tables → State → List Row → Running
beginning t q rows = record { tables = t; state = q; journal = rows; tally = no_tally }

pub record RunColumns : Type 0 where
  pub refusal : ℕ
  pub fault : ℕ
  pub tables : Tables
  pub state : State
  pub columns : Columns
  pub tally : List (List ℕ)

abbrev pub run_columns : ℕ → ℕ → Tables → State → Columns → List (List ℕ) → RunColumns
run_columns n k t q c tally = record { refusal = n; fault = k; tables = t; state = q; columns = c; tally = tally }

-- A run leaves the rows of its journal in the columns, as many as there are rows; entries above the last row are kept.
unfoldable pub run_in_columns : RunOutcome → Columns → RunColumns
run_in_columns o c =
    let r = o.running in
    run_columns o.refusal o.fault r.tables r.state (written r.journal c) r.tally

-- That is what a run leaves whose journal is lent as columns.
pub run_leaves_in_columns : (o : RunOutcome) (j : lent.Columns) {n f : ℕ} {t : Tables} {q : State} {k : lent.Columns} {counts : List (List ℕ)}
    → (n ≡ o.refusal) × (f ≡ o.fault) × (t ≡ o.running.tables) × (q ≡ o.running.state) × (k ≡ columns_written o.running.journal j)
    × (counts ≡ o.running.tally)
    → run_columns n f t q (columns_of k) counts ≡ run_in_columns o (columns_of j)
unfolding run_in_columns
run_leaves_in_columns o j e = rw (e.0, e.1, e.2, e.3, e.4, e.5, columns_written_is) refl
