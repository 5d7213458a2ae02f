-- A table whose first words are lent, and what becomes of it.
use Rattle.std.specs.Prelude.{List, take}
use Rattle.std.specs.Vec.{with_items_from}
use Rattle.scripts.specs.declared.table.Table.{Table}

-- The table with these first words, as many as were lent.
abbrev pub with_words : {T : Type 0} → Table T → List T → Table T
with_words t ws = record t { words = with_items_from t.words 0 ws }

-- The words of a table that are lent.
abbrev pub lent : {T : Type 0} → Table T → List T
lent t = take t.length t.words.items
