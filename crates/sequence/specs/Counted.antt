-- Section "The sequence file", the tally, with ten rows and counts of 32 bits.
use Rattle.std.specs.Prelude.{ℕ, ◌+◌, ◌-◌, ◌%◌, ◌^◌, List, [], get_or, set, min}
use Rattle.model.specs.Answers.{kind}
use Rattle.model.specs.Answer.{Answer}

-- One count raised, at a command's answer: for the codes 1 to 10, and a count below the largest number, this is the
-- paper's `raised`, and in a run of a checked file it always is (`run/Running.going_counted`). Another code has the
-- first row or the last, and after the largest number comes 0.
unfoldable pub counted : List (List ℕ) → ℕ → Answer → List (List ℕ)
counted tally code a =
    let n = min (code - 1) 9 in
    let counts = get_or tally n [] in
    set tally n (set counts (kind a) ((get_or counts (kind a) 0 + 1) % 2 ^ 32))
