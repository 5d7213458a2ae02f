-- There are as many rows as the shortest column has entries.
use native.Mathlib.Omega.{arith}
use mathlib.Core.Path.{◌≡◌, sym, ◌∙◌}
use Rattle.arena.specs.Columns.{row_count}
use Rattle.arena.specs.Journaled.{length_rows_in}
use Rattle.arena.specs.Lent.{columns_of}
use Rattle.arena.proofs.journal.ColumnsJournal.room.Goals as goal

pub returns : goal.returns
unfolding row_count
returns c =
    let count : c.min-2.result ≡ row_count (columns_of c.args.self.now) = omega arith in
    count ∙ sym (length_rows_in (columns_of c.args.self.now))
