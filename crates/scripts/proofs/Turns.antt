-- What a byte of a line does to the numbers that are read of it, whatever a digit more makes of a number.
use Rattle.std.proofs.Common.{◌≡◌, ℕ, ◌+◌, ◌-◌, ◌<◌, ◌≤◌, List, [], ◌∷◌, ◌++◌, ◌∙◌, sym, ap, length, get_or, take, drop, Option, Some, None, unwrap_or, rules, arith, length-append}
use Rattle.std.specs.Option.{option_to_list}
use Rattle.std.proofs.lemmas.List.{at_drop_more, at_drop_all, take_all, take-append-le}
use Rattle.scripts.specs.Numbers.{one_more, numbers_by}

-- A digit makes the number longer.
pub number_on : (add : ℕ → ℕ → ℕ) (o : Option ℕ) (text : List ℕ) (i x : ℕ) → i < length text
    → one_more add (unwrap_or o 0) (get_or text i 0) ≡ Some x
    → numbers_by add o (drop i text) ≡ numbers_by add (Some x) (drop (i + 1) text)
unfolding numbers_by
number_on add o text i x h e = at_drop_more (numbers_by add o) text i 0 h ∙ search rules

-- Anything else ends it.
pub number_ends : (add : ℕ → ℕ → ℕ) (o : Option ℕ) (text : List ℕ) (i : ℕ) → i < length text
    → one_more add (unwrap_or o 0) (get_or text i 0) ≡ None
    → numbers_by add o (drop i text) ≡ option_to_list o ++ numbers_by add None (drop (i + 1) text)
unfolding numbers_by
number_ends add o text i h e = at_drop_more (numbers_by add o) text i 0 h ∙ search rules

-- So does the end of the line.
pub numbers_end : (add : ℕ → ℕ → ℕ) (o : Option ℕ) (text : List ℕ) (i : ℕ) → length text ≤ i
    → numbers_by add o (drop i text) ≡ option_to_list o
unfolding numbers_by
numbers_end add o text i h = at_drop_all (numbers_by add o) text i h

-- The first numbers of a line, where it may have more than are wanted, and where they are all.
pub first_numbers : (read rest all : List ℕ) (most : ℕ) → read ++ rest ≡ all → length read ≤ most → most ≤ length read → read ≡ take most all
first_numbers read rest all most e low high =
    sym (ap (take most) (sym e) ∙ take-append-le most read rest high ∙ take_all most read low)

pub one_number : (o : Option ℕ) → length (option_to_list o) ≤ 1
one_number None = omega arith
one_number (Some x) = omega arith

pub all_numbers : (add : ℕ → ℕ → ℕ) (read new text : List ℕ) (o : Option ℕ) (i most : ℕ)
    → read ++ numbers_by add o (drop i text) ≡ numbers_by add None text
    → length text ≤ i → length read < most → new ≡ read ++ option_to_list o → new ≡ take most (numbers_by add None text)
all_numbers add read new text o i most e h low is =
    let all : new ≡ numbers_by add None text = is ∙ ap (λ l. read ++ l) (sym (numbers_end add o text i h)) ∙ e in
    sym (ap (take most) (sym all) ∙ take_all most new (omega (arith, ap length is, length-append read (option_to_list o), one_number o)))
