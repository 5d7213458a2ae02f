-- Why the claim's list leaves calls out: for each of them a short list of calls on a new store of one place, with that
-- one call left out, after which the definitions themselves have given a handle out twice, or show a message that no
-- line has.
use Rattle.std.specs.Prelude.{ℕ, ◌+◌, ◌≡◌, List, [], ◌∷◌, map, true, false, cond, not, ◌&&◌}
use Rattle.std.proofs.Math.Option.{none, some}
use Rattle.model.specs.Store.{Store, tables, header, store, ptr, new}
use Rattle.model.specs.Calls.{get}
use Rattle.model.specs.Perform.{Call}
use Rattle.model.specs.declared.Cursor.{Cursor}
use Rattle.book.specs.Book.{refuses, lookup, shown}
use Rattle.book.specs.Machine.{Entry, defined, call_in, called, run_of}
use Rattle.book.specs.Covered.{left_out}

-- How many entries of a list, run by the definitions, are left out.
abbrev pub left_out_count : List Entry → Store → ℕ
left_out_count [] s = 0
left_out_count (e ∷ es) s =
    cond (not (refuses (called (defined e s).answer)) && left_out (call_in e) s) 1 0
    + left_out_count es (defined e s).store

-- The entries of a list of calls.
abbrev pub made : List Call → List Entry
made cs = map Entry.call cs

-- One call of the list is left out, and the list gives the handle (1,2) out twice.
pub record GivesTwice (cs : List Call) : Type 0 where
  pub one : left_out_count (made cs) (new 1) ≡ 1
  pub twice : (run_of defined 1 (made cs)).given ≡ ptr 1 2 ∷ ptr 1 2 ∷ []

-- One call of the list is left out, and after the list the handle (1,2) shows a message that no line has.
pub record ShowsUnlisted (cs : List Call) : Type 0 where
  pub one : left_out_count (made cs) (new 1) ≡ 1
  pub shown : shown (get (run_of defined 1 (made cs)).store (ptr 1 2)).answer ≡ some 10
  pub unlisted : lookup (ptr 1 2) (run_of defined 1 (made cs)).book ≡ none

-- Compress with reset: its row gives (1,2) again.
abbrev pub compress_resets : List Call
compress_resets = Call.insert 10 ∷ Call.compress true 1 ∷ []

-- A set generation below the current one.
abbrev pub generation_lowered : List Call
generation_lowered = Call.insert 10 ∷ Call.remove (ptr 1 2) ∷ Call.set_generation 2 ∷ Call.insert 20 ∷ []

-- The call c steps the largest generation. The insert after it is refused where the message is still there: then c gave
-- (1,2) itself.
abbrev pub overflowing : Call → List Call
overflowing c = Call.insert 10 ∷ Call.set_generation 4294967295 ∷ c ∷ Call.insert 20 ∷ []

-- A cursor that counts up; index 0 is spent.
abbrev pub cursor : ℕ → Cursor
cursor i = record { index = i; rev = false }

-- A step that overflows, in each call that takes one.
abbrev pub remove_overflows : List Call
remove_overflows = overflowing (Call.remove (ptr 1 2))

abbrev pub remove_index_overflows : List Call
remove_index_overflows = overflowing (Call.remove_index 1)

abbrev pub invalidate_overflows : List Call
invalidate_overflows = overflowing (Call.invalidate (ptr 1 2))

abbrev pub clear_overflows : List Call
clear_overflows = overflowing Call.clear

abbrev pub compress_overflows : List Call
compress_overflows = overflowing (Call.compress false 1)

abbrev pub drain_overflows : List Call
drain_overflows = overflowing (Call.drain (cursor 1))

abbrev pub step_generation_overflows : List Call
step_generation_overflows =
    Call.insert 10
    ∷ Call.remove (ptr 1 2)
    ∷ Call.set_generation 4294967295
    ∷ Call.step_generation
    ∷ Call.insert 20
    ∷ []

-- An overflow that no answer shows: at a drain's end, and in a transfer out.
abbrev pub drain_end_overflows : List Call
drain_end_overflows = overflowing (Call.drain (cursor 0))

abbrev pub transfer_out_overflows : List Call
transfer_out_overflows = overflowing (Call.transfer_out (new 1) 2 1)

-- A store of one place with one message, 10 at (1,2).
abbrev pub source : Store
source = store (tables (2 ∷ []) (0 ∷ []) (10 ∷ [])) (header 1 1 0 2)

-- Transfer and copy into the store: its message is there, and has no line.
abbrev pub transfers_in : List Call
transfers_in = Call.transfer_in source 2 1 ∷ []

abbrev pub copies_in : List Call
copies_in = Call.copy_in source ∷ []
