-- Section "One listing, whole": the bytes that `runseq` prints for a file.
use Rattle.std.specs.Prelude.{ℕ, zero, suc, ◌+◌, ◌/◌, ◌%◌, ◌-◌, List, [], ◌∷◌, ◌++◌, false, cond, ◌||◌, length, get_or, replicate, ltb, eqb}
use Prim.Native.Char.{code}
use Prim.Native.String.{String}
use Prim.Native.String as text
use Rattle.model.specs.Store.{no_ptr, new}
use Rattle.model.specs.Sequence.{max_places, file_places, command_count, command_at}
use Rattle.model.specs.Calls.{row}
use Rattle.model.specs.Answers.{shown_ptr, shown_value}
use Rattle.model.specs.Run.{Running, next_step, after_step, no_tally, run}
use Rattle.model.specs.declared.Header.{Header}
use Rattle.model.specs.Answer.{Answer}
use Rattle.model.specs.Answer.{StepAnswer}

-- A text's bytes.
unfoldable pub bytes : String → List ℕ
bytes text.[] = []
bytes (text.◌∷◌ c t) = code c ∷ bytes t

-- A number's decimal digits, at most j of them.
unfoldable pub digits : ℕ → ℕ → List ℕ
digits zero n = []
digits (suc j) n =
    let more = digits j (n / 10) in
    cond (ltb n 10) [] more ++ ((48 + n % 10) ∷ [])

-- A 64-bit number has at most 20.
abbrev pub decimal : ℕ → List ℕ
decimal n = digits 20 n

-- The ten commands' words, in command order.
abbrev pub words : List (List ℕ)
words =
    bytes "insert"
    ∷ bytes "remove"
    ∷ bytes "invalidate"
    ∷ bytes "get"
    ∷ bytes "clear"
    ∷ bytes "order"
    ∷ bytes "compress"
    ∷ bytes "audit"
    ∷ bytes "setgen"
    ∷ bytes "takeinx"
    ∷ []

-- The word of a command, counted from 1.
unfoldable pub word : ℕ → List ℕ
word zero = []
word (suc n) = get_or words n []

-- `ok`, `over`, or `no` with the number.
abbrev pub result : Answer → List ℕ
result (Answer.Done p v) = bytes "ok"
result (Answer.Overflow p v) = bytes "over"
result (Answer.Refused n) = bytes "no" ++ decimal n

-- Numbers, each after a space, and the line's end.
abbrev pub numbers : List ℕ → List ℕ
numbers [] = bytes "\n"
numbers (n ∷ ns) = bytes " " ++ decimal n ++ numbers ns

-- The line of a command: its word, the answer and what it shows, then the header.
unfoldable pub command_line : ℕ → Answer → Header → List ℕ
command_line c a h =
    word c
    ++ bytes " "
    ++ result a
    ++ numbers
    ((shown_ptr a).index
    ∷ (shown_ptr a).generation
    ∷ shown_value a
    ∷ h.len
    ∷ h.m
    ∷ h.root
    ∷ h.generation
    ∷ [])

-- The line of a step: none where it ran no command.
abbrev pub step_line : ℕ → StepAnswer → Header → List ℕ
step_line c (StepAnswer.TurnedDown n k) h = []
step_line c StepAnswer.End h = []
step_line c (StepAnswer.Ran a) h = command_line c a h

-- The lines of the next n steps of the run.
unfoldable pub lines : ℕ → List ℕ → Running → List ℕ
lines zero b r = []
lines (suc n) b r =
    let o = next_step b r in
    step_line (command_at b r.state.next).code o.answer o.state.header ++ lines n b (after_step b r)

-- The sum of a column of the tally.
unfoldable pub total : ℕ → List (List ℕ) → ℕ
total c [] = 0
total c (counts ∷ tally) = get_or counts c 0 + total c tally

-- The last line: how many commands were done, overflowed and were refused.
unfoldable pub sum_line : List (List ℕ) → List ℕ
sum_line tally = bytes "sum" ++ numbers (total 0 tally ∷ total 1 tally ∷ total 2 tally ∷ [])

-- The one line of a refused file: the number, and the command's number or 0.
unfoldable pub refused_line : ℕ → ℕ → List ℕ
refused_line n c = bytes "refused" ++ numbers (n ∷ c ∷ [])

-- All that a run of the file b prints from r on: the lines of its steps and their sum, or that it is refused.
unfoldable pub listed : List ℕ → Running → List ℕ
listed b r =
    let o = run r.tables b r.state r.journal in
    let whole = lines (command_count b + 1 - r.state.next) b r ++ sum_line o.running.tally in
    cond (eqb o.refusal 0) whole (refused_line o.refusal o.fault)

-- `runseq` lends tables of the file's C entries, of 1,024 where C is larger or not there, and 1,024 rows.
abbrev pub lent_places : List ℕ → ℕ
lent_places b = cond (ltb (length b) 7 || ltb max_places (file_places b)) max_places (file_places b)

abbrev pub lent_rows : ℕ
lent_rows = 1024

abbrev pub lent : List ℕ → Running
lent b =
    let s = new (lent_places b) in
    record {
      tables = s.tables;
      state = record { next = 1; header = s.header };
      journal = replicate lent_rows (row no_ptr no_ptr false);
      tally = no_tally;
    }

-- All that `runseq` prints.
unfoldable pub listing : List ℕ → List ℕ
listing b = listed b (lent b)
