-- A part of a line, written into a buffer.
use Rattle.std.specs.Prelude.{ℕ, ◌+◌, ◌≡◌, List, ◌++◌, length}
use Rattle.std.proofs.lemmas.List.Edits.{sets}
use Rattle.model.specs.Listing.{bytes, decimal}

-- The bytes xs are written from the offset i on, and r is the offset after them.
pub record Written (before after : List ℕ) (i : ℕ) (xs : List ℕ) (r : ℕ) : Type 0 where
  pub bytes : after ≡ sets before i xs
  pub end : r ≡ i + length xs

-- A number after a space.
abbrev pub spaced : ℕ → List ℕ
spaced n = bytes " " ++ decimal n
