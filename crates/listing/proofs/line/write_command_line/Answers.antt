-- The word, the answer and the header.
use Rattle.listing.proofs.Texts.{written_then, line_written}
use Rattle.listing.proofs.LineParts.{command_parts}
use Rattle.listing.proofs.line.write_command_line.Goals as goal

pub returns : goal.returns
returns c =
    let w = line_written (written_then c.write_word-at.ensures.written (written_then c.write_answer-at.ensures.written c.write_header.ensures)) in
    rw (← command_parts _ _ _) (record { out_after = w.0; value = w.1 })
