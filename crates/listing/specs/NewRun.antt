-- Section "The sequence file": a run from command 1 on a new store.
use Rattle.std.specs.Prelude.{List}
use Rattle.model.specs.Store.{Tables, laid_out}
use Rattle.model.specs.Run.{Running}
use Rattle.model.specs.declared.Row.{Row}
use Rattle.sequence.specs.LentRun.{beginning, state_of}

-- The lent tables are laid out as a new store; the journal is lent with its rows.
unfoldable pub new_run : Tables → List Row → Running
new_run t rows = beginning (laid_out t).tables (state_of 1 (laid_out t).header) rows
