-- The two parts of a command's line after its word.
use Rattle.std.specs.Prelude.{ℕ, List, [], ◌∷◌, ◌++◌}
use Rattle.model.specs.Answers.{shown_ptr, shown_value}
use Rattle.model.specs.Listing.{bytes, result, numbers}
use Rattle.model.specs.declared.Header.{Header}
use Rattle.model.specs.Answer.{Answer}
use Rattle.listing.specs.Written.{spaced}

-- The answer of a command and what it shows.
unfoldable pub answer_text : Answer → List ℕ
answer_text a = bytes " " ++ result a ++ spaced (shown_ptr a).index ++ spaced (shown_ptr a).generation ++ spaced (shown_value a)

-- The header, and the line's end.
unfoldable pub header_text : Header → List ℕ
header_text h = numbers (h.len ∷ h.m ∷ h.root ∷ h.generation ∷ [])
