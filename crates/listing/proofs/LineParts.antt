-- A command's line in the parts in which it is written. Assumes nothing.
use Prim.Native.Nat.{ℕ}
use mathlib.Core.Path.{◌≡◌}
use mathlib.Core.List.{◌++◌, append_assoc}
use Rattle.listing.specs.Parts.{answer_text, header_text}
use Rattle.model.specs.Listing.{word, command_line}
use Rattle.model.specs.declared.Header.{Header}
use Rattle.model.specs.Answer.{Answer}

pub command_parts : (c : ℕ) (a : Answer) (h : Header) → word c ++ (answer_text a ++ header_text h) ≡ command_line c a h
unfolding answer_text header_text command_line
command_parts c a h = simp append_assoc
