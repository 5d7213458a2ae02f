-- How long a line can be, and so the lines of a run. Assumes nothing.
use Prim.Native.Nat.{ℕ, zero, suc, ◌+◌, ◌-◌, ◌*◌, ◌≤◌}
use mathlib.Core.Path.{◌≡◌}
use mathlib.Core.List.{List, [], ◌∷◌, ◌++◌}
use mathlib.Core.Bool.{true}
use native.Mathlib.Omega.{arith}
use lib.Dec.{lit≤, eqb}
use lib.ListN.{length, get_or, length-append}
use borrow.Author.Tests.{eqb-true}
use Rattle.model.specs.Sequence.{command_at, command_count}
use Rattle.model.specs.Answers.{shown_ptr, shown_value}
use Rattle.model.specs.Run.{Running, run, next_step, after_step}
use Rattle.model.specs.Listing.{bytes, decimal, words, word, result, numbers, command_line, step_line, lines, total, sum_line, refused_line, lent, listed, listing}
use Rattle.model.specs.Answer.{Answer}
use Rattle.model.specs.Answer.{StepAnswer}
use Rattle.model.specs.declared.Header.{Header}
use Rattle.listing.specs.Written.{Written}
use Rattle.model.proofs.Tests.{chosen}
use Rattle.listing.specs.declared.run.TheConstants.{LISTING_BYTES}
use Rattle.listing.proofs.Digits.{decimal_few}
use Rattle.sequence.proofs.Starting.{countable}

-- Every text of a list has at most n bytes.
AllShort : ℕ → List (List ℕ) → Type 0
AllShort n [] = Unit
AllShort n (t ∷ ts) = (length t ≤ n) × AllShort n ts

short_at : {n : ℕ} (ts : List (List ℕ)) (i : ℕ) → AllShort n ts → length (get_or ts i []) ≤ n
unfolding AllShort
short_at [] i s = omega arith
short_at (t ∷ ts) zero s = s.0
short_at (t ∷ ts) (suc i) s = short_at ts i s.1

short_words : AllShort 10 words
unfolding AllShort bytes
short_words =
    (lit≤ tt, (lit≤ tt, (lit≤ tt, (lit≤ tt, (lit≤ tt, (lit≤ tt, (lit≤ tt, (lit≤ tt, (lit≤ tt, (lit≤ tt, tt))))))))))

short_word : (c : ℕ) → length (word c) ≤ 10
unfolding word
short_word zero = omega arith
short_word (suc n) = short_at words n short_words

short_result : (a : Answer) → length (result a) ≤ 22
unfolding bytes
short_result (Answer.Done p v) = lit≤ tt
short_result (Answer.Overflow p v) = lit≤ tt
short_result (Answer.Refused n) = omega (arith, length-append (bytes "no") (decimal n), decimal_few n)

short_numbers : (ns : List ℕ) → length (numbers ns) ≤ 21 * length ns + 1
unfolding bytes
short_numbers [] = omega arith
short_numbers (n ∷ ns) =
    omega (arith, length-append (bytes " " ++ decimal n) (numbers ns), length-append (bytes " ") (decimal n), decimal_few n, short_numbers ns)

short_line : (c : ℕ) (a : Answer) (h : Header) → length (command_line c a h) ≤ 181
unfolding command_line bytes
short_line c a h =
    let shown : List ℕ =
    (shown_ptr a).index ∷ (shown_ptr a).generation ∷ shown_value a ∷ h.len ∷ h.m ∷ h.root ∷ h.generation ∷ [] in
    omega (
      arith,
      length-append (word c ++ bytes " " ++ result a) (numbers shown),
      length-append (word c ++ bytes " ") (result a),
      length-append (word c) (bytes " "),
      short_word c,
      short_result a,
      short_numbers shown,
    )

short_sum : (t : List (List ℕ)) → length (sum_line t) ≤ 67
unfolding sum_line bytes
short_sum t =
    let sums : List ℕ = total 0 t ∷ total 1 t ∷ total 2 t ∷ [] in
    omega (arith, length-append (bytes "sum") (numbers sums), short_numbers sums)

short_step : (c : ℕ) (a : StepAnswer) (h : Header) → length (step_line c a h) ≤ 181
short_step c (StepAnswer.TurnedDown n k) h = omega arith
short_step c StepAnswer.End h = omega arith
short_step c (StepAnswer.Ran a) h = short_line c a h

short_lines : (n : ℕ) (b : List ℕ) (r : Running) → length (lines n b r) ≤ 181 * n
unfolding lines
short_lines zero b r = omega arith
short_lines (suc n) b r =
    let o = next_step b r in
    let line = step_line (command_at b r.state.next).code o.answer o.state.header in
    omega (
      arith,
      length-append line (lines n b (after_step b r)),
      short_step (command_at b r.state.next).code o.answer o.state.header,
      short_lines n b (after_step b r),
    )

-- What a listing's lengths come to, as a run's loop has them.
pub few_bytes : (n : ℕ) (b : List ℕ) (r : Running) {before after : List ℕ} {at : ℕ} → Written before after 0 (lines n b r) at → at ≤ 181 * n
few_bytes n b r w = omega (arith, w.end, short_lines n b r)

pub line_bytes : (c : ℕ) (a : Answer) (h : Header) {n : ℕ} → n ≡ length (command_line c a h) → n ≤ 181
line_bytes c a h e = omega (arith, short_line c a h)

pub sum_bytes : (t : List (List ℕ)) {n : ℕ} → n ≡ length (sum_line t) → n ≤ 67
sum_bytes t e = omega (arith, short_sum t)

short_refused : (n c : ℕ) → length (refused_line n c) ≤ 50
unfolding refused_line bytes
short_refused n c = omega (arith, length-append (bytes "refused") (numbers (n ∷ c ∷ [])), short_numbers (n ∷ c ∷ []))

accepted_few : (b : List ℕ) (r : Running) → eqb (run r.tables b r.state r.journal).refusal 0 ≡ true → command_count b ≤ 4095
unfolding run
accepted_few b r e = (countable b r.tables r.state.next (eqb-true _ 0 e)).commands

-- The longest listing has 4,095 lines of a command and the line of sums: there is room for it.
pub short_listing : (b : List ℕ) → length (listing b) ≤ LISTING_BYTES
unfolding listing listed
short_listing b =
    let r = lent b in
    let o = run r.tables b r.state r.journal in
    let n = command_count b + 1 - r.state.next in
    let sum = sum_line o.running.tally in
    chosen (λ (text : List ℕ). length text ≤ LISTING_BYTES) (eqb o.refusal 0)
    (λ e. omega (arith, length-append (lines n b r) sum, short_lines n b r, short_sum o.running.tally, accepted_few b r e))
    (λ e. omega (arith, short_refused o.refusal o.fault))
