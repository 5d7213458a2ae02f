-- Section "The book", its list: entries, a machine that answers them, and what a run of a machine leaves.
use Rattle.std.specs.Prelude.{ℕ, ◌≡◌, List, [], ◌∷◌, ◌++◌, Bool, true, cond, ◌&&◌, leb, eqb}
use Rattle.model.specs.Store.{Store, store, new}
use Rattle.model.specs.Sequence.{command_at, command_count}
use Rattle.model.specs.Calls.{transfer, copy, advance, drain}
use Rattle.model.specs.Perform.{Call, perform}
use Rattle.model.specs.Run.{call_of, step_refusal, sequence_step, state}
use Rattle.model.specs.declared.Ptr.{Ptr}
use Rattle.model.specs.declared.Row.{Row}
use Rattle.model.specs.declared.Cursor.{Cursor}
use Rattle.model.specs.Answer.{Answer}
use Rattle.model.specs.Answer.{StepAnswer}
use Rattle.book.specs.Book.{Line, Effect, effect, fed_by, given_by}

-- An entry of the list: a call, or a sequence's step (the file's bytes, the state's next number, the journal's rows).
pub data Entry : Type 0 where
  call : Call → Entry
  step : List ℕ → ℕ → ℕ → Entry

-- What an entry hands back besides its answer: the cursor lent to it, the other of two stores, or the sequence state's
-- next number.
pub data HandedBack : Type 0 where
  nothing : HandedBack
  cursor : Cursor → HandedBack
  other_store : Store → HandedBack
  next_number : ℕ → HandedBack

-- What a call hands back.
unfoldable pub handed_back : Call → Store → HandedBack
handed_back (Call.insert v) s = nothing
handed_back (Call.insert_reallocating v) s = nothing
handed_back (Call.remove p) s = nothing
handed_back (Call.remove_index i) s = nothing
handed_back (Call.invalidate p) s = nothing
handed_back (Call.get p) s = nothing
handed_back (Call.put p v) s = nothing
handed_back Call.clear s = nothing
handed_back Call.order s = nothing
handed_back (Call.compress reset n) s = nothing
handed_back (Call.reserve n) s = nothing
handed_back (Call.transfer_out d g n) s = other_store (transfer d s g n).destination
handed_back (Call.transfer_in t g n) s = other_store (transfer s t g n).source
handed_back (Call.copy_out d) s = other_store (copy d s).destination
handed_back (Call.copy_in t) s = other_store (copy s t).source
handed_back (Call.advance c) s = cursor (advance s c).cursor
handed_back (Call.drain c) s = cursor (drain s c).cursor
handed_back Call.find_first s = nothing
handed_back Call.find_last s = nothing
handed_back (Call.set_generation g) s = nothing
handed_back Call.step_generation s = nothing
handed_back Call.audit s = nothing

-- What an entry leaves. A call's answer counts as that of a step that ran it.
pub record EntryOutcome : Type 0 where
  pub answer : StepAnswer
  pub store : Store
  pub rows : List Row
  pub back : HandedBack

-- Anything that answers entries.
abbrev pub Machine : Type 0
Machine = Entry → Store → EntryOutcome

-- The machine of the definitions. The state of a sequence has the store's own header.
unfoldable pub defined : Machine
defined (call c) s =
    let o = perform c s in
    record { answer = StepAnswer.Ran o.answer; store = o.store; rows = o.rows; back = handed_back c s }
defined (step f next n) s =
    let o = sequence_step s.tables f (state next s) n in
    record { answer = o.answer; store = store o.tables o.state.header; rows = o.rows; back = next_number o.state.next }

-- The call of an entry: of a step, that of its command.
unfoldable pub call_in : Entry → Call
call_in (call c) = c
call_in (step f next n) = call_of (command_at f next) n

-- Whether an entry counts as a call in a store of C places: a step that is to be turned down, or is past the last
-- command, counts as none.
unfoldable pub counts : ℕ → Entry → Bool
counts C (call c) = true
counts C (step f next n) = eqb (step_refusal (new C).tables f next) 0 && leb next (command_count f)

-- It counts as the call c.
abbrev pub CountsAs : ℕ → Entry → Call → Type 0
CountsAs C e c = (counts C e ≡ true) × (call_in e ≡ c)

-- What an entry that is not refused does to the book.
abbrev pub effect_in : ℕ → Entry → Effect
effect_in C e = cond (counts C e) (effect (call_in e)) Effect.keeps

-- The answer as that of a call: a machine that turns a step down, or says that there is no command, refuses it.
abbrev pub called : StepAnswer → Answer
called (StepAnswer.TurnedDown n c) = Answer.Refused n
called StepAnswer.End = Answer.Refused 0
called (StepAnswer.Ran a) = a

-- What a run has come to: the store, the book fed so far, and the handles given out so far.
pub record Reached : Type 0 where
  pub store : Store
  pub book : List Line
  pub given : List Ptr

-- At its start: a new store of C places, a book without lines, no handle given out.
abbrev pub begun : ℕ → Reached
begun C = record { store = new C; book = []; given = [] }

-- One entry further, lent the store that the one before left. The book is fed from the entry, its answer and its rows.
abbrev pub further : Machine → ℕ → Entry → Reached → Reached
further M C e r =
    let o = M e r.store in
    record {
      store = o.store;
      book = fed_by (effect_in C e) (called o.answer) o.rows r.book;
      given = r.given ++ given_by (effect_in C e) (called o.answer) o.rows r.book;
    }

unfoldable pub reached : Machine → ℕ → List Entry → Reached → Reached
reached M C [] r = r
reached M C (e ∷ es) r = reached M C es (further M C e r)

-- After a list on a new store.
abbrev pub run_of : Machine → ℕ → List Entry → Reached
run_of M C es = reached M C es (begun C)

-- What is said of an entry and of what the run had come to before it, said of each entry of a list.
abbrev pub Each : Machine → ℕ → (Entry → Reached → Type 0) → List Entry → Reached → Type 0
Each M C P [] r = Unit {0}
Each M C P (e ∷ es) r = P e r × Each M C P es (further M C e r)
