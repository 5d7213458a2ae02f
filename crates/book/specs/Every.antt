-- That the claim's list leaves out no other call: a list with every call of the store, apart from transfer and copy
-- into it, and a sequence's step. It is covered, and the definitions refuse none of it.
use Rattle.std.specs.Prelude.{ℕ, List, [], ◌∷◌, ◌++◌, map, Bool, false, ◌||◌, replicate}
use Rattle.model.specs.Store.{Store, ptr, new}
use Rattle.model.specs.Perform.{Call}
use Rattle.model.specs.declared.Cursor.{Cursor}
use Rattle.book.specs.Book.{refuses}
use Rattle.book.specs.Machine.{Entry, defined, called}

-- A cursor that counts up from place i; 0 is spent.
abbrev pub up : ℕ → Cursor
up i = record { index = i; rev = false }

-- A sequence file for two places: insert 0.
abbrev pub one_insert : List ℕ
one_insert = (84 ∷ 84 ∷ 83 ∷ 1 ∷ 0 ∷ 2 ∷ 0 ∷ 0 ∷ []) ++ 1 ∷ replicate 15 0

abbrev pub every_call : List Entry
every_call =
    map Entry.call
    (Call.insert 10
    ∷ Call.insert_reallocating 20
    ∷ Call.get (ptr 1 2)
    ∷ Call.put (ptr 1 2) 5
    ∷ Call.invalidate (ptr 1 2)
    ∷ Call.remove (ptr 2 2)
    ∷ Call.remove_index 1
    ∷ Call.insert 30
    ∷ Call.order
    ∷ Call.reserve 2
    ∷ Call.advance (up 1)
    ∷ Call.find_first
    ∷ Call.find_last
    ∷ Call.audit
    ∷ Call.set_generation 7
    ∷ Call.step_generation
    ∷ Call.compress false 1
    ∷ Call.copy_out (new 2)
    ∷ Call.drain (up 1)
    ∷ Call.drain (up 0)
    ∷ Call.insert 40
    ∷ Call.transfer_out (new 2) 2 1
    ∷ Call.insert 50
    ∷ Call.clear
    ∷ [])
    ++ (Entry.step one_insert 1 0 ∷ [])

-- Whether the definitions refuse any of a list.
abbrev pub any_refused : List Entry → Store → Bool
any_refused [] s = false
any_refused (e ∷ es) s = refuses (called (defined e s).answer) || any_refused es (defined e s).store
