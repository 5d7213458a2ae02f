-- The whole-file check: how many commands there are, and what the check returns. Assumes nothing.
use Prim.Native.Nat.{ℕ, ◌+◌, ◌*◌, ◌-◌, ◌%◌, ◌^◌, ◌≤◌, ◌<◌}
use mathlib.Core.Path.{◌≡◌, refl, sym}
use mathlib.Core.Bool.{Bool, true, false, cond, not, ◌||◌, ◌&&◌}
use mathlib.Core.List.{List, [], ◌∷◌}
use native.Mathlib.Decide.{ℕ_discrete}
use native.Mathlib.Nat.{add-zero}
use native.Mathlib.Omega.{arith}
use lib.ListN.{length, get_or}
use lib.Pointwise.{pointwise}
use lib.Dec.{ltb, eqb}
use borrow.Author.Tests.{ltb-false, eqb-true, not-false}
use Rattle.model.specs.Store.{Tables}
use Rattle.model.specs.Sequence.{field, max_commands, command_count, command_at}
use Rattle.model.specs.Refusals.{tables_unfit, wrong_length, wrong_mark, wrong_places, first_bad}
use Rattle.model.specs.Run.{step_refusal, fault}
use Rattle.model.specs.Answers.{refusal_number, checked_number, checked_fault}
use Rattle.model.specs.declared.Refusal.{Refusal}
use Rattle.model.specs.declared.StepRefusal.{StepRefusal}
use Rattle.std.specs.Prelude.{⊤, None, Some, Result, Ok, Err, IfErr}
use Rattle.std.specs.Result.{IsErr, IsErrAnd}
use Rattle.model.proofs.Tests.{tests, fails, after}
use Rattle.std.proofs.lemmas.Bool.{or_parts}
use Rattle.sequence.proofs.CommandTable.{good_row}
use Rattle.sequence.proofs.Finding.{all_good, found_low, found, none_there, some_there}
use Rattle.model.proofs.Readings.{number_some}
use Rattle.sequence.specs.Head.{head_refusal}
use Rattle.sequence.specs.Fault.{NamesFault}

-- A file that passes 10 has no more commands than 16 bits count.
pub count_fits : (b : List ℕ) → wrong_length b ≡ false → command_count b ≤ max_commands
unfolding wrong_length
count_fits b e =
    let long = ltb (length b) 8 || not (eqb ((length b - 8) % 16) 0) in
    ltb-false _ _ (or_parts long _ e).1

-- So the number of its first bad command fits them.
pub bad_fits : (b : List ℕ) → wrong_length b ≡ false → first_bad b (command_count b) < 2 ^ 16
bad_fits b e = omega (arith, count_fits b e, found_low b (command_count b))

-- The bytes of `TTS`, and the number that they make.
three : (x y z : ℕ) → x < 256 → y < 256 → z < 256
    → eqb x 84 && (eqb y 84 && (eqb z 83 && true)) ≡ eqb (x + 256 * (y + 256 * z)) (84 + 256 * (84 + 256 * 83))
three x y z a b c =
    elim (ℕ_discrete x 84) [
      | no d ↦ let n : x + 256 * (y + 256 * z) ≡ 84 + 256 * (84 + 256 * 83) → ⊥ = λ e. omega arith in simp tests
      | yes d ↦
          elim (ℕ_discrete y 84) [
            | no f ↦ let n : x + 256 * (y + 256 * z) ≡ 84 + 256 * (84 + 256 * 83) → ⊥ = λ e. omega arith in simp tests
            | yes f ↦
                elim (ℕ_discrete z 83) [
                  | no g ↦ let n : x + 256 * (y + 256 * z) ≡ 84 + 256 * (84 + 256 * 83) → ⊥ = λ e. omega arith in simp tests
                  | yes g ↦ rw (d, f, g) refl
                ]
          ]
    ]

pub mark_is : (b bs : List ℕ) → bs ≡ field b 0 1 ∷ field b 1 1 ∷ field b 2 1 ∷ [] → ((i : ℕ) → get_or b i 0 < 256)
    → pointwise eqb bs (84 ∷ 84 ∷ 83 ∷ []) ≡ eqb (field b 0 3) (84 + 256 * (84 + 256 * 83))
unfolding field
mark_is b bs e h = rw (e, add-zero, add-zero, add-zero) (three (get_or b 0 0) (get_or b 1 0) (get_or b 2 0) (h 0) (h 1) (h 2))

-- Of tests in checking order one before the last decides, if one holds; else the last.
before_last : (a b c d e : Bool) (n : ℕ) → n ≡ cond a 1 (cond b 10 (cond c 11 (cond d 12 0))) → (n ≡ 0 → ⊥)
    → (n ≡ cond a 1 (cond b 10 (cond c 11 (cond d 12 (cond e 13 0))))) × (eqb n 13 ≡ false)
before_last true b c d e n is some = (is, rw is refl)
before_last false true c d e n is some = (is, rw is refl)
before_last false false true d e n is some = (is, rw is refl)
before_last false false false true e n is some = (is, rw is refl)
before_last false false false false e n is some = absurd (some is)

the_last : (a b c d e : Bool) → ◌≡◌ {A = ℕ} 0 (cond a 1 (cond b 10 (cond c 11 (cond d 12 0))))
    → ◌≡◌ {A = ℕ} (cond e 13 0) (cond a 1 (cond b 10 (cond c 11 (cond d 12 (cond e 13 0)))))
the_last true b c d e is = absurd (omega arith)
the_last false true c d e is = absurd (omega arith)
the_last false false true d e is = absurd (omega arith)
the_last false false false true e is = absurd (omega arith)
the_last false false false false e is = refl

-- What is turned down before its commands are looked at.
pub early : (t : Tables) (b : List ℕ) (next : ℕ) (r : Refusal) (q : Result ⊤ StepRefusal) → refusal_number r ≡ head_refusal t b next
    → IsErr q × IsErrAnd q (λ e. (e.refusal ≡ r) × (e.fault ≡ None))
    → (checked_number q ≡ step_refusal t b next) × (checked_fault q ≡ fault b (checked_number q)) × IfErr q NamesFault
unfolding step_refusal
early t b next r (Ok x) is err = cc
early t b next r (Err e) is err =
    let n = before_last (tables_unfit t) (wrong_length b) (wrong_mark b) (wrong_places b (length t.generations) next)
    (not (eqb (first_bad b (command_count b)) 0)) (refusal_number r) is (number_some r) in
    rw (err.1.0, err.1.1, n.1) (n.0, refl, refl)

-- Past those tests the commands decide.
pub late : (t : Tables) (b : List ℕ) (next : ℕ) → ◌≡◌ {A = ℕ} 0 (head_refusal t b next)
    → ◌≡◌ {A = ℕ} (cond (not (eqb (first_bad b (command_count b)) 0)) 13 0) (step_refusal t b next)
unfolding step_refusal
late t b next is =
    the_last (tables_unfit t) (wrong_length b) (wrong_mark b) (wrong_places b (length t.generations) next) (not (eqb (first_bad b (command_count b)) 0)) is

pub late_none : (t : Tables) (b : List ℕ) (next : ℕ) → ◌≡◌ {A = ℕ} 0 (head_refusal t b next) → None ≡ found (first_bad b (command_count b))
    → ◌≡◌ {A = ℕ} 0 (step_refusal t b next)
late_none t b next is none = let e = none_there _ none in rw e at (late t b next is)

pub late_some : (t : Tables) (b : List ℕ) (next n : ℕ) → ◌≡◌ {A = ℕ} 0 (head_refusal t b next) → Some n ≡ found (first_bad b (command_count b))
    → ◌≡◌ {A = ℕ} 13 (step_refusal t b next)
late_some t b next n is some =
    let d = (some_there _ n some).1 in
    let holds : not (eqb (first_bad b (command_count b)) 0) ≡ true = simp tests in
    rw holds at (late t b next is)

-- The number of a bad command then fits.
pub late_fits : (t : Tables) (b : List ℕ) (next n : ℕ) → ◌≡◌ {A = ℕ} 0 (head_refusal t b next) → Some n ≡ found (first_bad b (command_count b))
    → n < 2 ^ 16
late_fits t b next n is some =
    let right = fails (wrong_length b) _ _ (after (tables_unfit t) _ _ (sym is)) in
    let e = (some_there _ n some).0 in
    omega (arith, bad_fits b right)

-- A command of an accepted file has a row in the table.
pub accepted_code : (b : List ℕ) (t : Tables) (next : ℕ) → step_refusal t b next ≡ 0 → (n : ℕ) → 1 ≤ n → n ≤ command_count b
    → (1 ≤ (command_at b n).code) × ((command_at b n).code ≤ 10)
unfolding step_refusal
accepted_code b t next e n low high =
    let last = after (wrong_places b (length t.generations) next) _ _ (after (wrong_mark b) _ _ (after (wrong_length b) _ _ (after (tables_unfit t) _ _ e))) in
    let none = eqb-true (first_bad b (command_count b)) 0 (not-false _ (fails (not (eqb (first_bad b (command_count b)) 0)) _ _ last)) in
    let one : n - 1 + 1 ≡ n = omega arith in
    good_row (command_at b n) (rw one at (all_good b (command_count b) none (n - 1) (omega arith)))
