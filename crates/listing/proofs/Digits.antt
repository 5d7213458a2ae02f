-- A number's digits. Assumes nothing.
use Prim.Native.Nat.{ℕ, zero, suc, ◌+◌, ◌^◌, ◌/◌, ◌%◌, ◌≤◌, ◌<◌}
use mathlib.Core.Path.{◌≡◌, ap}
use mathlib.Core.List.{List, [], ◌∷◌, ◌++◌}
use mathlib.Core.Bool.{Bool, true, false, cond}
use native.Mathlib.Omega.{arith}
use lib.Dec.{ltb}
use lib.ListN.{length, length-append}
use borrow.Author.Tests.{lt-ltb, le-ltb}
use Rattle.std.specs.Fmt.{decimal as printed}
use Rattle.std.proofs.lemmas.Fmt.{AppendsLastDigit, decimal_from_appends, length-decimal-le}
use Rattle.model.specs.Listing.{digits, decimal}

-- They are those that the library prints.
appends_last : AppendsLastDigit digits
unfolding digits
appends_last = record {
  one = λ j n h. simp (lt-ltb n 10 h) (ap (λ (d : ℕ). (48 + d) ∷ []) (omega arith));
  more = λ j n h. simp (le-ltb n 10 h);
}

pub decimal_printed : (n : ℕ) → n < 2 ^ 64 → decimal n ≡ printed n
decimal_printed n h = decimal_from_appends digits appends_last 20 n h (length-decimal-le 20 n (omega arith) (omega arith) h)

-- No more digits than asked for.
digits_few : (j n : ℕ) → length (digits j n) ≤ j
unfolding digits
digits_few zero n = omega arith
digits_few (suc j) n = few (ltb n 10) (digits j (n / 10)) (digits_few j (n / 10))
  where
    few : (b : Bool) (ds : List ℕ) → length ds ≤ j → length (cond b [] ds ++ ((48 + n % 10) ∷ [])) ≤ suc j
    few true ds h = omega arith
    few false ds h = omega (arith, length-append ds ((48 + n % 10) ∷ []))

pub decimal_few : (n : ℕ) → length (decimal n) ≤ 20
decimal_few n = digits_few 20 n
