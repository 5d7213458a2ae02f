-- Section "The calls": a call with its arguments, and what it leaves of the store that it is made on.
use Rattle.std.specs.Prelude.{ℕ, Bool}
use Rattle.model.specs.Store.{Store}
use Rattle.model.specs.Calls.{Outcome, BothOutcome}
use Rattle.model.specs.Calls as calls
use Rattle.model.specs.declared.Ptr.{Ptr}
use Rattle.model.specs.declared.Cursor.{Cursor}

pub data Call : Type 0 where
  insert : ℕ → Call  -- value
  insert_reallocating : ℕ → Call  -- value
  remove : Ptr → Call
  remove_index : ℕ → Call
  invalidate : Ptr → Call
  get : Ptr → Call
  put : Ptr → ℕ → Call  -- value
  clear : Call
  order : Call
  compress : Bool → ℕ → Call  -- reset; rows of the journal
  reserve : ℕ → Call  -- places
  transfer_out : Store → ℕ → ℕ → Call  -- destination; generation given; rows of the journal
  transfer_in : Store → ℕ → ℕ → Call  -- source; generation given; rows of the journal
  copy_out : Store → Call  -- destination
  copy_in : Store → Call  -- source
  advance : Cursor → Call
  drain : Cursor → Call
  find_first : Call
  find_last : Call
  set_generation : ℕ → Call
  step_generation : Call
  audit : Call

-- Of two stores, the one that the call is made on.
abbrev pub of_source : BothOutcome → Outcome
of_source o = record { answer = o.answer; store = o.source; rows = o.rows }

abbrev pub of_destination : BothOutcome → Outcome
of_destination o = record { answer = o.answer; store = o.destination; rows = o.rows }

unfoldable pub perform : Call → Store → Outcome
perform (insert v) s = calls.insert s v
perform (insert_reallocating v) s = calls.insert_reallocating s v
perform (remove p) s = calls.remove s p
perform (remove_index i) s = calls.remove_index s i
perform (invalidate p) s = calls.invalidate s p
perform (get p) s = calls.get s p
perform (put p v) s = calls.put s p v
perform clear s = calls.clear s
perform order s = calls.order s
perform (compress reset n) s = calls.compress s reset n
perform (reserve n) s = calls.reserve s n
perform (transfer_out d g n) s = of_source (calls.transfer d s g n)
perform (transfer_in t g n) s = of_destination (calls.transfer s t g n)
perform (copy_out d) s = of_source (calls.copy d s)
perform (copy_in t) s = of_destination (calls.copy s t)
perform (advance c) s = (calls.advance s c).outcome
perform (drain c) s = (calls.drain s c).outcome
perform find_first s = calls.find_first s
perform find_last s = calls.find_last s
perform (set_generation g) s = calls.set_generation s g
perform step_generation s = calls.step_generation s
perform audit s = calls.audit s
