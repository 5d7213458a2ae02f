-- Section "The calls", the journal: what every form of it keeps.
use Rattle.std.specs.Prelude.{ℕ, ◌≡◌, ◌≤◌, List, [], ◌∷◌, ◌++◌, length}
use Rattle.model.specs.Calls.{journaled}
use Rattle.model.specs.declared.Row.{Row}

-- A journal j holds `rows j`; it is `with_row j n r` with r as the row after n others, and `written rs j` with the
-- rows rs from row 1 on.
pub record JournalLaws {J : Type 0} (rows : J → List Row) (with_row : J → ℕ → Row → J) (written : List Row → J → J) : Type 0 where
  pub no_row : (j : J) → written [] j ≡ j
  pub row_more : (rs : List Row) (r : Row) (j : J) → written (rs ++ (r ∷ [])) j ≡ with_row (written rs j) (length rs) r
  -- what is read back: later rows keep their contents, and a row that finds no room is left out
  pub reads : (rs : List Row) (j : J) → rows (written rs j) ≡ journaled rs (rows j)
  -- rows written over others may as well be written into those first
  pub over : (rs first : List Row) (j : J) → length rs ≤ length first → written rs (written first j) ≡ written (journaled rs first) j
  pub own : (j : J) → written (rows j) j ≡ j
