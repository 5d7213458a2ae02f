-- Section "The calls", the journal, in the form that section "Each place and its form" puts first: a column for each
-- field of a row.
use Rattle.std.specs.Prelude.{ℕ, zero, suc, min, List, [], ◌∷◌, ◌++◌, map, Bool, false, length, get_or, set}
use Rattle.std.proofs.lemmas.List.Edits.{sets}
use Rattle.model.specs.Store.{Store, ptr}
use Rattle.model.specs.Calls.{Outcome, BothOutcome, row}
use Rattle.model.specs.Answer.{Answer}
use Rattle.model.specs.declared.Row.{Row}

pub record Columns : Type 0 where
  pub old_index : List ℕ
  pub old_generation : List ℕ
  pub new_index : List ℕ
  pub new_generation : List ℕ
  pub overflow : List Bool

abbrev pub columns : List ℕ → List ℕ → List ℕ → List ℕ → List Bool → Columns
columns oi og ni ng ov =
    record { old_index = oi; old_generation = og; new_index = ni; new_generation = ng; overflow = ov }

-- A row is there where every column has it: there are as many rows as the shortest column has entries.
unfoldable pub row_count : Columns → ℕ
row_count c =
    min (length c.old_index)
    (min (length c.old_generation)
    (min (length c.new_index) (min (length c.new_generation) (length c.overflow))))

-- Row i, which is counted from 0, and all rows.
abbrev pub row_at : Columns → ℕ → Row
row_at c i =
    row (ptr (get_or c.old_index i 0) (get_or c.old_generation i 0)) (ptr (get_or c.new_index i 0) (get_or c.new_generation i 0))
    (get_or c.overflow i false)

unfoldable pub rows_to : Columns → ℕ → List Row
rows_to c zero = []
rows_to c (suc n) = rows_to c n ++ (row_at c n ∷ [])

abbrev pub rows_in : Columns → List Row
rows_in c = rows_to c (row_count c)

-- The columns with rows written from row 1 on, which `sets` counts as 0; later rows keep their contents.
unfoldable pub written : List Row → Columns → Columns
written rows c =
    columns
    (sets c.old_index 0 (map (λ (r : Row). r.old.index) rows))
    (sets c.old_generation 0 (map (λ (r : Row). r.old.generation) rows))
    (sets c.new_index 0 (map (λ (r : Row). r.new.index) rows))
    (sets c.new_generation 0 (map (λ (r : Row). r.new.generation) rows))
    (sets c.overflow 0 (map (λ (r : Row). r.overflow) rows))

-- The columns with r as the row after n others.
abbrev pub with_row : Columns → ℕ → Row → Columns
with_row c n r =
    columns
    (set c.old_index n r.old.index)
    (set c.old_generation n r.old.generation)
    (set c.new_index n r.new.index)
    (set c.new_generation n r.new.generation)
    (set c.overflow n r.overflow)

-- What a call leaves that was lent columns: its answer, its store or its two stores, and the columns with its rows
-- written.
pub record ColumnsOutcome : Type 0 where
  pub answer : Answer
  pub store : Store
  pub columns : Columns

abbrev pub columns_outcome : Answer → Store → Columns → ColumnsOutcome
columns_outcome a s c = record { answer = a; store = s; columns = c }

unfoldable pub in_columns : Outcome → Columns → ColumnsOutcome
in_columns o c = columns_outcome o.answer o.store (written o.rows c)

pub record BothColumnsOutcome : Type 0 where
  pub answer : Answer
  pub destination : Store
  pub source : Store
  pub columns : Columns

abbrev pub both_columns_outcome : Answer → Store → Store → Columns → BothColumnsOutcome
both_columns_outcome a d s c = record { answer = a; destination = d; source = s; columns = c }

unfoldable pub both_in_columns : BothOutcome → Columns → BothColumnsOutcome
both_in_columns o c = both_columns_outcome o.answer o.destination o.source (written o.rows c)
