-- The two forms of the journal, a slice of rows and five lent columns: their rows, and what they are with rows written.
use Rattle.std.specs.Prelude.{ℕ, List, set}
use Rattle.model.specs.Calls.{journaled}
use Rattle.model.specs.declared.Row.{Row}
use Rattle.arena.specs.Columns as plain
use Rattle.arena.specs.Columns.{columns, rows_in, with_row, written}
use Rattle.arena.specs.declared.journal.Rows.{Rows}
use Rattle.arena.specs.declared.journal.Columns.{Columns}

-- A slice of rows.
abbrev pub slice_of : Rows → List Row
slice_of j = j.rows.now

abbrev pub with_slice : Rows → List Row → Rows
with_slice j rows =
    record { rows = record { ref_ptr = j.rows.ref_ptr; ghost_name = j.rows.ghost_name; now = rows } }

unfoldable pub slice_with_row : Rows → ℕ → Row → Rows
slice_with_row j n r = with_slice j (set j.rows.now n r)

unfoldable pub slice_written : List Row → Rows → Rows
slice_written rows j = with_slice j (journaled rows j.rows.now)

-- Columns.
abbrev pub columns_of : Columns → plain.Columns
columns_of j = columns j.oldinx.now j.oldgen.now j.newinx.now j.newgen.now j.overflow.now

abbrev pub with_columns : Columns → plain.Columns → Columns
with_columns j c =
    record {
      oldinx = record { ref_ptr = j.oldinx.ref_ptr; ghost_name = j.oldinx.ghost_name; now = c.old_index };
      oldgen = record { ref_ptr = j.oldgen.ref_ptr; ghost_name = j.oldgen.ghost_name; now = c.old_generation };
      newinx = record { ref_ptr = j.newinx.ref_ptr; ghost_name = j.newinx.ghost_name; now = c.new_index };
      newgen = record { ref_ptr = j.newgen.ref_ptr; ghost_name = j.newgen.ghost_name; now = c.new_generation };
      overflow = record { ref_ptr = j.overflow.ref_ptr; ghost_name = j.overflow.ghost_name; now = c.overflow };
    }

abbrev pub column_rows : Columns → List Row
column_rows j = rows_in (columns_of j)

unfoldable pub columns_with_row : Columns → ℕ → Row → Columns
columns_with_row j n r = with_columns j (with_row (columns_of j) n r)

unfoldable pub columns_written : List Row → Columns → Columns
columns_written rows j = with_columns j (written rows (columns_of j))
