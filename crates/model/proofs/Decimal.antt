-- Twenty digits are enough for every 64-bit number: more would print the same. Assumes nothing.
use Prim.Native.Nat.{ℕ, zero, suc, ◌+◌, ◌^◌, ◌/◌, ◌%◌, ◌<◌}
use mathlib.Core.Path.{◌≡◌, ap, ◌∙◌}
use mathlib.Core.List.{List, [], ◌∷◌, ◌++◌}
use mathlib.Core.Bool.{cond}
use native.Mathlib.Nat.{div-lt_iff_lt-mul, pow-suc, pow-le-pow_right, le_trans}
use native.Mathlib.Omega.{arith}
use lib.Dec.{ltb, lit<, lit≤}
use borrow.Author.Tests.{lt-ltb}
use Rattle.model.specs.Listing.{digits, decimal}

digits_more : (j n : ℕ) → n < 10 ^ suc j → digits (suc (suc j)) n ≡ digits (suc j) n
unfolding digits
digits_more zero n h = simp (lt-ltb n 10 h)
digits_more (suc j) n h =
    ap (λ (more : List ℕ). cond (ltb n 10) [] more ++ ((48 + n % 10) ∷ [])) (digits_more j (n / 10) ((div-lt_iff_lt-mul (lit< tt)).1 (rw pow-suc at h)))

-- So it is with any number of digits above those that are enough.
digits_enough : (j i n : ℕ) → n < 10 ^ suc j → digits (suc j + i) n ≡ digits (suc j) n
digits_enough j zero n h = ap (λ (d : ℕ). digits d n) (omega arith)
digits_enough j (suc i) n h =
    ap (λ (d : ℕ). digits d n) (omega arith)
    ∙ digits_more (j + i) n (le_trans h (pow-le-pow_right (lit< tt) (omega arith)))
    ∙ ap (λ (d : ℕ). digits d n) (omega arith)
    ∙ digits_enough j i n h

pub decimal_enough : (i n : ℕ) → n < 2 ^ 64 → digits (20 + i) n ≡ decimal n
decimal_enough i n h = digits_enough 19 i n (le_trans h (lit≤ tt))
