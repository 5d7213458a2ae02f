-- Its word, two numbers and the end of the line.
use Rattle.model.specs.Listing.{bytes, refused_line}
use Rattle.listing.proofs.Texts.{written_then, line_written}
use Rattle.listing.proofs.last_line.write_refused_line.Goals as goal

pub returns : goal.returns
unfolding bytes refused_line
returns c =
    let w =
    line_written
    (written_then c.write_text-at.ensures
    (written_then c.write_number-at.ensures.written
    (written_then c.write_number-at-2.ensures.written c.write_text.ensures))) in
    record { out_after = w.0; value = w.1 }
