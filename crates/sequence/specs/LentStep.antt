-- Section "The sequence file", a step, with the journal lent as columns: what it leaves.
use Rattle.std.specs.Prelude.{◌≡◌, refl}
use Rattle.model.specs.Store.{Tables}
use Rattle.model.specs.Run.{StepOutcome}
use Rattle.model.specs.declared.State.{State}
use Rattle.model.specs.Answer.{StepAnswer}
use Rattle.arena.specs.Columns.{Columns, written}
use Rattle.arena.specs.Lent.{columns_of, columns_written}
use Rattle.arena.specs.Laws.{columns_written_is}
use Rattle.arena.specs.declared.journal.Columns as lent

pub record StepColumns : Type 0 where
  pub answer : StepAnswer
  pub tables : Tables
  pub state : State
  pub columns : Columns

abbrev pub step_columns : StepAnswer → Tables → State → Columns → StepColumns
step_columns a t q c = record { answer = a; tables = t; state = q; columns = c }

-- A step writes its rows into the columns.
unfoldable pub step_in_columns : StepOutcome → Columns → StepColumns
step_in_columns o c = step_columns o.answer o.tables o.state (written o.rows c)

-- That is what a step leaves whose journal is lent as columns.
pub step_leaves_in_columns : (o : StepOutcome) (j : lent.Columns) {a : StepAnswer} {t : Tables} {q : State} {k : lent.Columns}
    → (a ≡ o.answer) × (t ≡ o.tables) × (q ≡ o.state) × (k ≡ columns_written o.rows j)
    → step_columns a t q (columns_of k) ≡ step_in_columns o (columns_of j)
unfolding step_in_columns
step_leaves_in_columns o j e = rw (e.0, e.1, e.2, e.3, columns_written_is) refl
