-- The numbers that a line spells: each run of decimal digits is one, and whatever is no digit parts them.
use Rattle.std.specs.Prelude.{ℕ, ◌+◌, ◌-◌, ◌*◌, ◌/◌, ◌%◌, ◌^◌, min, ltb, if◌then◌else◌, List, [], ◌∷◌, ◌++◌, Option, Some, None, unwrap_or}
use Rattle.std.specs.Char.{is_ascii_digit}
use Rattle.std.specs.Option.{option_to_list}

-- A number with one more digit, in one of two ways: above the largest of 64 bits it stays at that, or a digit that finds no
-- room is left out, and the last may wrap.
abbrev pub with_digit : ℕ → ℕ → ℕ
with_digit x d = min (x * 10 + d) (2 ^ 64 - 1)

abbrev pub next_digit : ℕ → ℕ → ℕ
next_digit x d = if ltb ((2 ^ 64 - 1) / 10) x then x else ((x * 10 + d) % 2 ^ 64)

-- The same, if the byte is a digit.
abbrev pub one_more : (ℕ → ℕ → ℕ) → ℕ → ℕ → Option ℕ
one_more add x b = if is_ascii_digit b then Some (add x (b - 48)) else None

abbrev pub longer : ℕ → ℕ → Option ℕ
longer x b = one_more with_digit x b

abbrev pub read_on : ℕ → ℕ → Option ℕ
read_on x b = one_more next_digit x b

-- The numbers of a text, of which the first may have begun before it.
unfoldable pub numbers_by : (ℕ → ℕ → ℕ) → Option ℕ → List ℕ → List ℕ
numbers_by add o [] = option_to_list o
numbers_by add o (b ∷ bs) =
    if is_ascii_digit b
    then numbers_by add (Some (add (unwrap_or o 0) (b - 48))) bs
    else (option_to_list o ++ numbers_by add None bs)

abbrev pub numbers_from : Option ℕ → List ℕ → List ℕ
numbers_from o text = numbers_by with_digit o text

abbrev pub read_from : Option ℕ → List ℕ → List ℕ
read_from o text = numbers_by next_digit o text
