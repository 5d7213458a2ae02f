-- The generation step at every width of w bits. A generation is a number below 2 ^ w, and the largest is 2 ^ w - 1.
-- Assumes nothing.
use Prim.Native.Nat.{ℕ, ◌+◌, ◌-◌, ◌^◌, ◌≤◌, ◌<◌}
use mathlib.Core.Path.{◌≡◌}
use mathlib.Core.Bool.{true, false, true≢false, false≢true}
use native.Mathlib.Decide.{ℕ_discrete}
use native.Mathlib.Omega.{arith}
use borrow.Author.Tests.{eq-eqb, ne_eqb}
use lib.Pow.{pow_mono}
use Rattle.model.specs.Calls.{step_at}

-- From the largest generation it goes to 2.
pub step_largest : (w g : ℕ) → g ≡ 2 ^ w - 1 → step_at w g ≡ record { generation = 2; overflow = true }
unfolding step_at
step_largest w g e = rw (eq-eqb g (2 ^ w - 1) e)

-- From any other it adds 1.
pub step_other : (w g : ℕ) → (g ≡ 2 ^ w - 1 → ⊥) → step_at w g ≡ record { generation = g + 1; overflow = false }
unfolding step_at
step_other w g n = rw (ne_eqb g (2 ^ w - 1) n)

-- It fits the width, where the width holds 2.
pub step_fits : (w g : ℕ) → 2 ≤ w → g < 2 ^ w → (step_at w g).generation < 2 ^ w
step_fits w g p h =
    elim (ℕ_discrete g (2 ^ w - 1)) [
      | yes e ↦ rw (step_largest w g e) (omega (arith, pow_mono p))
      | no n ↦ rw (step_other w g n) (omega arith)
    ]

-- It is neither 0 nor 1.
pub step_above_one : (w g : ℕ) → 1 ≤ g → 2 ≤ (step_at w g).generation
step_above_one w g h =
    elim (ℕ_discrete g (2 ^ w - 1)) [
      | yes e ↦ rw (step_largest w g e) (omega arith)
      | no n ↦ rw (step_other w g n) (omega arith)
    ]

-- It overflows at the largest generation and nowhere else.
pub largest_overflows : (w g : ℕ) → g ≡ 2 ^ w - 1 → (step_at w g).overflow ≡ true
largest_overflows w g e = rw (step_largest w g e)

pub overflow_largest : (w g : ℕ) → (step_at w g).overflow ≡ true → g ≡ 2 ^ w - 1
overflow_largest w g o =
    elim (ℕ_discrete g (2 ^ w - 1)) [
      | yes e ↦ e
      | no n ↦ absurd (false≢true (rw (step_other w g n) at o))
    ]

-- Without overflow it is one more, so that a generation never comes again before an overflow.
pub step_one_more : (w g : ℕ) → (step_at w g).overflow ≡ false → (step_at w g).generation ≡ g + 1
step_one_more w g o =
    elim (ℕ_discrete g (2 ^ w - 1)) [
      | yes e ↦ absurd (true≢false (rw (step_largest w g e) at o))
      | no n ↦ rw (step_other w g n)
    ]

pub step_larger : (w g : ℕ) → (step_at w g).overflow ≡ false → g < (step_at w g).generation
step_larger w g o = rw (step_one_more w g o) (omega arith)
