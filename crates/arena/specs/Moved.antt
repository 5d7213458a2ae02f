-- Section "The calls", the journal: the rows of the messages that a call moves.
use Rattle.std.specs.Prelude.{List, ◌&&◌}
use Rattle.model.specs.Store.{Store, marks}
use Rattle.model.specs.Freelist.{live_places}
use Rattle.model.specs.Calls.{step, steps_from, rows_of}
use Rattle.model.specs.declared.Row.{Row}
use Rattle.arena.specs.declared.journal.Moves.{Moves}

-- The rows of the messages of s that are moved. Only a message that is removed from its store has a row that may say
-- overflow.
abbrev pub moved_rows : Store → Moves → List Row
moved_rows s w =
    rows_of s (live_places (marks s) w.m) 0 w.new (λ n. w.removed && (step (steps_from w.current n)).overflow)
