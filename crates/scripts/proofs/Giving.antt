-- What the words of a place, given after those of the places before it, make of a table.
use Rattle.std.proofs.Common.{◌≡◌, ℕ, ◌+◌, ◌*◌, ◌∙◌, suc, List, drop, slice_set, arith, refl, ap}
use Rattle.std.proofs.lemmas.List.{drop-drop}
use Rattle.scripts.specs.declared.words.Place.{Place}
use Rattle.scripts.specs.Words.{given, place_of}

pub given_none : (word : Place → ℕ) (numbers ws : List ℕ) → given word numbers 0 ws ≡ ws
unfolding given
given_none word numbers ws = refl

pub given_next : (word : Place → ℕ) (numbers ws : List ℕ) (k : ℕ)
    → given word numbers (k + 1) ws ≡ slice_set (given word numbers k ws) k (word (place_of (drop (3 * k) numbers)))
unfolding given
given_next word numbers ws k = let e : k + 1 ≡ suc k = omega arith in ap (λ (n : ℕ). given word numbers n ws) e

-- What follows the numbers of a place.
pub numbers_next : (numbers : List ℕ) (k : ℕ) → drop 3 (drop (3 * k) numbers) ≡ drop (3 * (k + 1)) numbers
numbers_next numbers k = let e : 3 * k + 3 ≡ 3 * (k + 1) = omega arith in drop-drop 3 (3 * k) numbers ∙ ap (λ (n : ℕ). drop n numbers) e
