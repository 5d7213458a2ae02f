-- Seven wrong machines that are nearer to a right one than the empty ones, at least one for each field of the claim but
-- the first. The claim, even without its first field, is false of each.
use Rattle.std.specs.Prelude.{◌+◌, List, [], ◌∷◌, false, cond, map}
use Rattle.model.specs.Store.{Store, tables, header, store, at, write, ptr, no_ptr}
use Rattle.model.specs.Calls.{regenerated}
use Rattle.model.specs.Perform.{Call}
use Rattle.model.specs.Answer.{Answer}
use Rattle.model.specs.Answer.{StepAnswer}
use Rattle.book.specs.Book.{effect, single_by}
use Rattle.book.specs.Machine.{Entry, HandedBack, Machine, EntryOutcome, defined, call_in, called, Reached, run_of}
use Rattle.book.specs.Empty.{removes, gets, only}

-- The defined outcome, but with another store.
abbrev pub leaving : EntryOutcome → Store → EntryOutcome
leaving o s = record { answer = o.answer; store = s; rows = o.rows; back = o.back }

-- A remove that does not step the generation. Its handle is given out again.
abbrev pub unstepping : Machine
unstepping e s =
    let o = defined e s in
    leaving o (cond (removes (effect (call_in e))) (regenerated o.store s.header.generation) o.store)

-- A remove that leaves its place out of the chain. No insertion finds it again.
abbrev pub leaking : Machine
leaking e s =
    let o = defined e s in
    let h = o.store.header in
    leaving o
    (cond (removes (effect (call_in e))) (store o.store.tables (header h.len h.m s.header.root h.generation)) o.store)

-- A remove that leaves a header without a stack. The other message is above it.
abbrev pub forgetting : Machine
forgetting e s =
    let o = defined e s in
    let h = o.store.header in
    leaving o (cond (removes (effect (call_in e))) (store o.store.tables (header h.len 0 0 h.generation)) o.store)

-- A single-message call that adds 1 to the link of place 1, whosever it is.
abbrev pub meddling : Machine
meddling e s =
    let o = defined e s in
    let t = o.store.tables in
    let linked = store (tables t.generations (write t.links 1 (at s.tables.links 1 + 1)) t.values) o.store.header in
    leaving o (cond (single_by (effect (call_in e)) (called o.answer)) linked o.store)

-- What it has come to with two messages, at places 1 and 2.
abbrev pub two_messages : List Call
two_messages = Call.insert 10 ∷ Call.insert 20 ∷ []

abbrev pub with_two : Reached
with_two = run_of meddling 2 (map Entry.call two_messages)

-- Every kind of single-message call then: those on the message at place 2, and an insert that is refused.
abbrev pub single_calls : List Call
single_calls =
    Call.insert 30
    ∷ Call.insert_reallocating 30
    ∷ Call.remove (ptr 2 2)
    ∷ Call.remove_index 2
    ∷ Call.invalidate (ptr 2 2)
    ∷ Call.get (ptr 2 2)
    ∷ Call.put (ptr 2 2) 30
    ∷ Call.drain (record { index = 2; rev = false })
    ∷ []

-- A store that loses the value at place 1 in each call that is no single-message call, such as order.
abbrev pub losing : Machine
losing e s =
    let o = defined e s in
    let t = o.store.tables in
    let lost = store (tables t.generations t.links (write t.values 1 0)) o.store.header in
    leaving o (cond (single_by (effect (call_in e)) (called o.answer)) o.store lost)

-- A machine that is right in every call, and turns every step of a sequence down.
abbrev pub unplaying : Machine
unplaying (Entry.call c) s = defined (Entry.call c) s
unplaying (Entry.step f next n) s =
    record { answer = StepAnswer.TurnedDown 12 0; store = s; rows = []; back = HandedBack.next_number next }

-- A machine that is right in every call, and shows 5 for every get of a sequence.
abbrev pub misplaying : Machine
misplaying (Entry.call c) s = defined (Entry.call c) s
misplaying (Entry.step f next n) s =
    let e = Entry.step f next n in
    cond (gets (effect (call_in e))) (only (Answer.Done no_ptr 5) e s) (defined e s)
