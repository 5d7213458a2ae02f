-- Section "The sequence file", the run: the call of each command, the step, the steps one after the other, and the
-- tally.
use Rattle.std.specs.Prelude.{ℕ, zero, suc, ◌+◌, ◌-◌, List, [], ◌∷◌, cond, not, length, get_or, set, replicate, ltb, eqb}
use Rattle.model.specs.Store.{Tables, Store, store, ptr}
use Rattle.model.specs.Tests.{first_holding}
use Rattle.model.specs.Sequence.{command_count, command_at}
use Rattle.model.specs.Refusals.{tables_unfit, wrong_length, wrong_mark, wrong_places, first_bad}
use Rattle.model.specs.Calls.{Outcome, journaled}
use Rattle.model.specs.Perform.{Call, perform}
use Rattle.model.specs.Answers.{kind}
use Rattle.model.specs.declared.State.{State}
use Rattle.model.specs.declared.Row.{Row}
use Rattle.model.specs.declared.Command.{Command}
use Rattle.model.specs.Answer.{Answer}
use Rattle.model.specs.Answer.{StepAnswer}

-- The call of a command, with a journal of n rows. The whole-file check lets no other code than 1 to 10 through.
unfoldable pub call_of : Command → ℕ → Call
call_of c n =
    let p = ptr c.index c.generation in
    cond (eqb c.code 1) (Call.insert c.value)
    (cond (eqb c.code 2) (Call.remove p)
    (cond (eqb c.code 3) (Call.invalidate p)
    (cond (eqb c.code 4) (Call.get p)
    (cond (eqb c.code 5) Call.clear
    (cond (eqb c.code 6) Call.order
    (cond (eqb c.code 7) (Call.compress (eqb c.flag 1) n)
    (cond (eqb c.code 8) Call.audit
    (cond (eqb c.code 9) (Call.set_generation c.generation)
    (Call.remove_index c.index)))))))))

-- What turns a step itself down: 1, and then 10 to 13 on the whole file.
unfoldable pub step_refusal : Tables → List ℕ → ℕ → ℕ
step_refusal t b next =
    first_holding
    ((1, tables_unfit t)
    ∷ (10, wrong_length b)
    ∷ (11, wrong_mark b)
    ∷ (12, wrong_places b (length t.generations) next)
    ∷ (13, not (eqb (first_bad b (command_count b)) 0))
    ∷ [])

-- The command at fault: the first bad command's number where the refusal is 13, else 0.
abbrev pub fault : List ℕ → ℕ → ℕ
fault b n = cond (eqb n 13) (first_bad b (command_count b)) 0

abbrev pub state : ℕ → Store → State
state next s = record { next = next; header = s.header }

-- What a step leaves.
pub record StepOutcome : Type 0 where
  pub answer : StepAnswer
  pub tables : Tables
  pub state : State
  pub rows : List Row

abbrev pub unchanged : StepAnswer → Tables → State → StepOutcome
unchanged a t q = record { answer = a; tables = t; state = q; rows = [] }

abbrev pub ran : ℕ → Outcome → StepOutcome
ran next o =
    record { answer = StepAnswer.Ran o.answer; tables = o.store.tables; state = state next o.store; rows = o.rows }

-- A step over the file b in the state q, with a journal of n rows. Past the last command it is done and changes
-- nothing.
unfoldable pub sequence_step : Tables → List ℕ → State → ℕ → StepOutcome
sequence_step t b q n =
    let no = step_refusal t b q.next in
    let o = perform (call_of (command_at b q.next) n) (store t q.header) in
    cond (not (eqb no 0)) (unchanged (StepAnswer.TurnedDown no (fault b no)) t q)
    (cond (ltb (command_count b) q.next) (unchanged StepAnswer.End t q) (ran (q.next + 1) o))

-- Ten rows of three counts: by command, and by done, overflow and refused.
abbrev pub no_tally : List (List ℕ)
no_tally = replicate 10 (replicate 3 0)

-- One count raised, at a command's answer. Rows are counted from 1, as commands are; a code without a row counts
-- nothing.
unfoldable pub raised : List (List ℕ) → ℕ → Answer → List (List ℕ)
raised tally zero a = tally
raised tally (suc n) a =
    let counts = get_or tally n [] in
    set tally n (set counts (kind a) (get_or counts (kind a) 0 + 1))

-- The tally after a step: a step that ran no command counts nothing.
abbrev pub tallied : List (List ℕ) → ℕ → StepAnswer → List (List ℕ)
tallied tally code (StepAnswer.TurnedDown n c) = tally
tallied tally code StepAnswer.End = tally
tallied tally code (StepAnswer.Ran a) = raised tally code a

-- What a run has come to.
pub record Running : Type 0 where
  pub tables : Tables
  pub state : State
  pub journal : List Row
  pub tally : List (List ℕ)

abbrev pub next_step : List ℕ → Running → StepOutcome
next_step b r = sequence_step r.tables b r.state (length r.journal)

unfoldable pub after_step : List ℕ → Running → Running
after_step b r =
    let o = next_step b r in
    record {
      tables = o.tables;
      state = o.state;
      journal = journaled o.rows r.journal;
      tally = tallied r.tally (command_at b r.state.next).code o.answer;
    }

-- n steps, one after the other.
unfoldable pub steps : ℕ → List ℕ → Running → Running
steps zero b r = r
steps (suc n) b r = after_step b (steps n b r)

-- What a run leaves: the number that its first step is turned down by and the command at fault, or 0 and 0 with all
-- commands from its number on run.
pub record RunOutcome : Type 0 where
  pub refusal : ℕ
  pub fault : ℕ
  pub running : Running

unfoldable pub run : Tables → List ℕ → State → List Row → RunOutcome
run t b q journal =
    let no = step_refusal t b q.next in
    let start : Running = record { tables = t; state = q; journal = journal; tally = no_tally } in
    let end = steps (command_count b + 1 - q.next) b start in
    record { refusal = no; fault = fault b no; running = cond (eqb no 0) end start }
