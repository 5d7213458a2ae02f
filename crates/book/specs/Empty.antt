-- Five machines that do not do a store's work. Each differs from the definitions in what its comment says, and the
-- claim, even without its first field, is false of each.
use Rattle.std.specs.Prelude.{◌+◌, [], Bool, true, false, cond, ◌&&◌, replicate, eqb}
use Rattle.model.specs.Store.{store, no_ptr, capacity}
use Rattle.model.specs.Calls.{row}
use Rattle.model.specs.Run.{state, run}
use Rattle.model.specs.Answer.{Answer}
use Rattle.model.specs.Answer.{StepAnswer}
use Rattle.book.specs.Book.{Effect, effect, inserts}
use Rattle.book.specs.Machine.{Entry, HandedBack, Machine, defined, call_in}

-- Whether a call of this effect is a remove, by handle or by index; then whether it is a get.
abbrev pub removes : Effect → Bool
removes (Effect.adds v) = false
removes (Effect.strikes p) = true
removes (Effect.strikes_at i) = true
removes (Effect.replaces_ptr p) = false
removes Effect.reads = false
removes (Effect.replaces_value p v) = false
removes Effect.strikes_all = false
removes Effect.moves = false
removes Effect.drains = false
removes Effect.keeps = false

abbrev pub gets : Effect → Bool
gets (Effect.adds v) = false
gets (Effect.strikes p) = false
gets (Effect.strikes_at i) = false
gets (Effect.replaces_ptr p) = false
gets Effect.reads = true
gets (Effect.replaces_value p v) = false
gets Effect.strikes_all = false
gets Effect.moves = false
gets Effect.drains = false
gets Effect.keeps = false

-- The answer of an entry whose call, if it ran, answers a instead.
abbrev pub answering : Answer → StepAnswer → StepAnswer
answering a (StepAnswer.TurnedDown n c) = StepAnswer.TurnedDown n c
answering a StepAnswer.End = StepAnswer.End
answering a (StepAnswer.Ran b) = StepAnswer.Ran a

-- Each call answers a and leaves the store as lent.
abbrev pub only : Answer → Machine
only a e s =
    let o = defined e s in
    record { answer = answering a o.answer; store = s; rows = []; back = o.back }

-- A remove that returns the message and frees nothing.
abbrev pub frees_nothing : Machine
frees_nothing e s =
    let o = defined e s in
    let left = cond (removes (effect (call_in e))) s o.store in
    record { answer = o.answer; store = left; rows = o.rows; back = o.back }

-- A run that does every command in its first step: a step does the commands from its own to the last, and answers as
-- its own does.
abbrev pub runs_all : Machine
runs_all (Entry.call c) s = defined (Entry.call c) s
runs_all (Entry.step f next n) s =
    let o = defined (Entry.step f next n) s in
    let end = (run s.tables f (state next s) (replicate n (row no_ptr no_ptr false))).running in
    record {
      answer = o.answer;
      store = store end.tables end.state.header;
      rows = o.rows;
      back = HandedBack.next_number end.state.next;
    }

-- An insert that says full with a place free: one place before the store is full.
abbrev pub full_early : Machine
full_early e s =
    cond (inserts (effect (call_in e)) && eqb (s.header.len + 1) (capacity s))
    (only (Answer.Refused 7) e s)
    (defined e s)

-- A get that always shows one value, 5.
abbrev pub shows_one : Machine
shows_one e s = cond (gets (effect (call_in e))) (only (Answer.Done no_ptr 5) e s) (defined e s)

-- A store that turns all calls down, and all steps, by 1.
abbrev pub refuses_all : Machine
refuses_all (Entry.call c) s =
    record { answer = StepAnswer.Ran (Answer.Refused 1); store = s; rows = []; back = HandedBack.nothing }
refuses_all (Entry.step f next n) s =
    record { answer = StepAnswer.TurnedDown 1 0; store = s; rows = []; back = HandedBack.next_number next }
