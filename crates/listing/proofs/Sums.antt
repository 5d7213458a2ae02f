-- The sum of a column of the tally, row by row. Assumes nothing.
use Prim.Native.Nat.{ℕ, ◌+◌, ◌≤◌, ◌<◌}
use mathlib.Core.Path.{◌≡◌, ap, sym, ◌∙◌}
use mathlib.Core.List.{List, []}
use native.Mathlib.Numerals.{add-one}
use lib.ListN.{length, drop, get_or, drop_of_length-le}
use lib.Seq.{drop-cons}
use Rattle.model.specs.Listing.{total}

-- One row more, and none.
pub total_next : (c : ℕ) (t : List (List ℕ)) (i : ℕ) → i < length t → total c (drop i t) ≡ get_or (get_or t i []) c 0 + total c (drop (i + 1) t)
unfolding total
total_next c t i h = ap (total c) (drop-cons t i [] h) ∙ ap (λ (j : ℕ). get_or (get_or t i []) c 0 + total c (drop j t)) (sym (add-one i))

pub total_none : (c : ℕ) (t : List (List ℕ)) (i : ℕ) → length t ≤ i → total c (drop i t) ≡ 0
unfolding total
total_none c t i h = ap (total c) (drop_of_length-le t h)
