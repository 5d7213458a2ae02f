-- A cursor as C and Rust have it: its index, and whether it counts down.
use Rattle.std.specs.Prelude.{ℕ, Bool}
use Rattle.model.specs.declared.Cursor.{Cursor}

abbrev pub cursor_of : ℕ → Bool → Cursor
cursor_of i back = record { index = i; rev = back }
