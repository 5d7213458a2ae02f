-- Both forms of the journal keep its laws. Assumes nothing.
use mathlib.Core.Path.{◌≡◌, refl, ap}
use mathlib.Core.List.{List}
use mathlib.Core.Bool.{false}
use Rattle.model.specs.Store.{Store, no_ptr}
use Rattle.model.specs.Calls.{Outcome, BothOutcome, row, journaled}
use Rattle.model.specs.Answer.{Answer}
use Rattle.model.specs.declared.Row.{Row}
use Rattle.arena.specs.Columns.{written, columns_outcome, in_columns, both_columns_outcome, both_in_columns}
use Rattle.arena.specs.Journal.{JournalLaws}
use Rattle.arena.specs.Journaled.{written_next, written_none, written_journaled, written_over, written_own, sets_over, sets_all, sets_more}
use Rattle.arena.specs.Lent.{slice_of, with_slice, slice_with_row, slice_written, column_rows, columns_of, with_columns, columns_with_row, columns_written}
use Rattle.arena.specs.declared.journal.Rows.{Rows}
use Rattle.arena.specs.declared.journal.Columns.{Columns}

pub slice_laws : JournalLaws slice_of slice_with_row slice_written
unfolding slice_with_row slice_written
slice_laws = record {
  no_row = λ j. refl;
  row_more = λ rs r j. ap (with_slice j) (sets_more (slice_of j) rs r);
  reads = λ rs j. refl;
  over = λ rs first j h. ap (with_slice j) (sets_over (slice_of j) first rs h);
  own = λ j. ap (with_slice j) (sets_all (slice_of j) (slice_of j) (row no_ptr no_ptr false) refl);
}

pub columns_laws : JournalLaws column_rows columns_with_row columns_written
unfolding columns_with_row columns_written
columns_laws = record {
  no_row = λ j. ap (with_columns j) (written_none (columns_of j));
  row_more = λ rs r j. ap (with_columns j) (written_next rs r (columns_of j));
  reads = λ rs j. written_journaled rs (columns_of j);
  over = λ rs first j h. ap (with_columns j) (written_over rs first (columns_of j) h);
  own = λ j. ap (with_columns j) (written_own (columns_of j));
}

-- With rows written, a slice is the journal with those rows, and columns are the columns with those rows.
pub slice_written_is : (rows : List Row) (j : Rows) → slice_of (slice_written rows j) ≡ journaled rows (slice_of j)
unfolding slice_written
slice_written_is rows j = refl

pub columns_written_is : (rows : List Row) (j : Columns) → columns_of (columns_written rows j) ≡ written rows (columns_of j)
unfolding columns_written
columns_written_is rows j = refl

-- So a call that leaves an answer, its store and its rows written leaves these in columns.
pub leaves_in_columns : (o : Outcome) (j : Columns) {a : Answer} {s : Store} {k : Columns}
    → (a ≡ o.answer) × (s ≡ o.store) × (k ≡ columns_written o.rows j) → columns_outcome a s (columns_of k) ≡ in_columns o (columns_of j)
unfolding in_columns
leaves_in_columns o j e = rw (e.0, e.1, e.2, columns_written_is) refl

pub both_leave_in_columns : (o : BothOutcome) (j : Columns) {a : Answer} {d s : Store} {k : Columns}
    → (a ≡ o.answer) × (d ≡ o.destination) × (s ≡ o.source) × (k ≡ columns_written o.rows j)
    → both_columns_outcome a d s (columns_of k) ≡ both_in_columns o (columns_of j)
unfolding both_in_columns
both_leave_in_columns o j e = rw (e.0, e.1, e.2, e.3, columns_written_is) refl
