-- The first bad command of a file, where those before it are good. Assumes nothing.
use Prim.Native.Nat.{ℕ, zero, suc, ◌+◌, ◌*◌, ◌-◌, ◌/◌, ◌≤◌, ◌<◌}
use mathlib.Core.Path.{◌≡◌, refl, ap, sym, ◌∙◌}
use mathlib.Core.Bool.{true, false, cond}
use mathlib.Core.List.{List, []}
use native.Mathlib.Decide.{ℕ_discrete}
use native.Mathlib.Omega.{arith}
use lib.ListN.{length, get_or, take, drop, length-drop}
use lib.Seq.{drop-drop, take_all}
use Rattle.std.specs.Prelude.{Option, None, Some}
use Rattle.std.specs.Simd.{first_chunks}
use lib.Dec.{eqb}
use Rattle.model.specs.Sequence.{command_from, command_at}
use Rattle.model.specs.Refusals.{bad_command, first_bad}
use Rattle.model.proofs.Tests.{tests, fails, chosen}
use Rattle.sequence.proofs.Fields.{command_whole}

-- A good command leaves the first bad one to be found.
good_suc : (b : List ℕ) (n : ℕ) → first_bad b n ≡ 0 → bad_command (command_at b (suc n)) ≡ false → first_bad b (suc n) ≡ 0
unfolding first_bad
good_suc b n e f = simp (tests, f)

pub good_next : (b : List ℕ) (n : ℕ) → first_bad b n ≡ 0 → bad_command (command_at b (n + 1)) ≡ false → first_bad b (n + 1) ≡ 0
good_next b n e f = let one : n + 1 ≡ suc n = omega arith in rw one (good_suc b n e (rw one at f))

-- The first one stays the first, however many come after it.
bad_suc : (b : List ℕ) (n m : ℕ) → first_bad b n ≡ 0 → bad_command (command_at b (suc n)) ≡ true → n < m → first_bad b m ≡ suc n
unfolding first_bad
bad_suc b n zero e f h = absurd (omega arith)
bad_suc b n (suc m) e f h =
    elim (ℕ_discrete n m) [
      | yes q ↦
          let d : first_bad b m ≡ 0 = ap (first_bad b) (sym q) ∙ e in
          let g : bad_command (command_at b (suc m)) ≡ true = ap (λ (k : ℕ). bad_command (command_at b (suc k))) (sym q) ∙ f in
          let r : first_bad b (suc m) ≡ suc m = simp (tests, g) in
          r ∙ ap suc (sym q)
      | no q ↦
          let on : first_bad b m ≡ suc n = bad_suc b n m e f (omega arith) in
          let d : first_bad b m ≡ 0 → ⊥ = λ x. omega arith in
          let r : first_bad b (suc m) ≡ first_bad b m = simp tests in
          r ∙ on
    ]

pub bad_next : (b : List ℕ) (n m : ℕ) → first_bad b n ≡ 0 → bad_command (command_at b (n + 1)) ≡ true → n < m → first_bad b m ≡ n + 1
bad_next b n m e f h = let one : n + 1 ≡ suc n = omega arith in rw one (bad_suc b n m e (rw one at f) h)

-- It is one of the commands looked at.
pub found_low : (b : List ℕ) (n : ℕ) → first_bad b n ≤ n
unfolding first_bad
found_low b zero = omega arith
found_low b (suc n) =
    chosen (λ (x : ℕ). x ≤ suc n) (eqb (first_bad b n) 0)
    (λ e. chosen (λ (x : ℕ). x ≤ suc n) (bad_command (command_at b (suc n))) (λ f. omega arith) (λ f. omega arith))
    (λ e. omega (arith, found_low b n))

-- Where none is found, none was found before, and each command is good.
none_found : (x y : ℕ) → cond (eqb x 0) y x ≡ 0 → (x ≡ 0) × (y ≡ 0)
none_found zero y e = (refl, e)
none_found (suc x) y e =
    let d : suc x ≡ 0 → ⊥ = λ z. omega arith in
    let found : cond (eqb (suc x) 0) y (suc x) ≡ suc x = simp tests in
    absurd (omega arith)

last_good : (b : List ℕ) (m : ℕ) → first_bad b (suc m) ≡ 0 → (first_bad b m ≡ 0) × (bad_command (command_at b (suc m)) ≡ false)
unfolding first_bad
last_good b m e =
    let none = none_found (first_bad b m) (cond (bad_command (command_at b (suc m))) (suc m) 0) e in
    (none.0, fails (bad_command (command_at b (suc m))) m 0 none.1)

pub all_good : (b : List ℕ) (m : ℕ) → first_bad b m ≡ 0 → (n : ℕ) → n < m → bad_command (command_at b (n + 1)) ≡ false
all_good b zero e n h = absurd (omega arith)
all_good b (suc m) e n h =
    elim (ℕ_discrete n m) [
      | yes q ↦ let one : n + 1 ≡ suc m = omega arith in rw one (last_good b m e).1
      | no q ↦ all_good b m (last_good b m e).0 n (omega arith)
    ]

-- A chunk is the run of elements where it stands.
chunk_at : (n j : ℕ) (xs : List ℕ) → j < n → get_or (first_chunks 16 n xs) j [] ≡ take 16 (drop (16 * j) xs)
chunk_at zero j xs h = absurd (omega arith)
chunk_at (suc n) zero xs h = refl
chunk_at (suc n) (suc j) xs h =
    let on : 16 + 16 * j ≡ 16 * suc j = omega arith in
    chunk_at n j (drop 16 xs) (omega arith) ∙ rw (drop-drop, on) refl

-- So a command that the file counts is read in its chunk, where all its bytes are.
pub chunk_command : (b rest : List ℕ) (chunks : List (List ℕ)) (k : ℕ) → rest ≡ take (length b - 8) (drop 8 b) → length rest + 8 ≡ length b
    → chunks ≡ first_chunks 16 (length rest / 16) rest → k < length rest / 16 → command_from (get_or chunks k []) 0 ≡ command_at b (k + 1)
chunk_command b rest chunks k e whole cut h =
    let all : rest ≡ drop 8 b = e ∙ take_all (length b - 8) (drop 8 b) (omega (arith, length-drop 8 b)) in
    let at : get_or chunks k [] ≡ take 16 (drop (16 * k) rest) = rw cut (chunk_at (length rest / 16) k rest h) in
    let from : drop (16 * k) rest ≡ drop (8 + 16 * k) b = ap (drop (16 * k)) all ∙ drop-drop (16 * k) 8 b in
    let sixteen : 16 ≡ 8 + 16 * k + 16 - (8 + 16 * k) = omega arith in
    let there : get_or chunks k [] ≡ take (8 + 16 * k + 16 - (8 + 16 * k)) (drop (8 + 16 * k) b) =
    at ∙ ap (take 16) from ∙ ap (λ (t : ℕ). take t (drop (8 + 16 * k) b)) sixteen in
    ap (λ (p : List ℕ). command_from p 0) there ∙ command_whole b (16 * (k + 1) - 8) (8 + 16 * k) (8 + 16 * k + 16) (omega arith) refl

-- The number of the first bad command, where there is one.
abbrev pub found : ℕ → Option ℕ
found n = cond (eqb n 0) None (Some n)

pub found_first : (b : List ℕ) (n m : ℕ) → first_bad b n ≡ 0 → true ≡ bad_command (command_at b (n + 1)) → n < m → Some (n + 1) ≡ found (first_bad b m)
found_first b n m e f h =
    let r = bad_next b n m e (sym f) h in
    let d : n + 1 ≡ 0 → ⊥ = λ x. omega arith in
    rw r (simp tests)

pub none_there : (n : ℕ) → None ≡ found n → n ≡ 0
none_there n e =
    elim (ℕ_discrete n 0) [
      | yes z ↦ z
      | no d ↦ let f : found n ≡ Some n = simp tests in cc
    ]

pub some_there : (n m : ℕ) → Some m ≡ found n → (m ≡ n) × (n ≡ 0 → ⊥)
some_there n m e =
    elim (ℕ_discrete n 0) [
      | yes z ↦ let f : found n ≡ None = rw z refl in cc
      | no d ↦ let f : found n ≡ Some n = simp tests in (cc, d)
    ]
