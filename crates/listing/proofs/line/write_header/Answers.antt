-- Four numbers and the end of the line.
use Rattle.listing.specs.Parts.{header_text}
use Rattle.model.specs.Listing.{bytes}
use Rattle.listing.proofs.Texts.{written_then}
use Rattle.listing.proofs.line.write_header.Goals as goal

pub returns : goal.returns
unfolding bytes header_text
returns c =
    written_then c.write_number-at.ensures.written
    (written_then c.write_number-at-2.ensures.written
    (written_then c.write_number-at-3.ensures.written
    (written_then c.write_number-at-4.ensures.written c.write_text.ensures)))
