-- Its word, three sums and the end of the line.
use Rattle.model.specs.Listing.{bytes, sum_line}
use Rattle.listing.proofs.Texts.{written_then, line_written}
use Rattle.listing.proofs.last_line.write_sum_line.Goals as goal

pub returns : goal.returns
unfolding bytes sum_line
returns c =
    let w =
    line_written
    (written_then c.write_text-at.ensures
    (written_then c.write_number-at.ensures.written
    (written_then c.write_number-at-2.ensures.written
    (written_then c.write_number-at-3.ensures.written c.write_text.ensures)))) in
    rw (← c.column_total.ensures, ← c.column_total-2.ensures, ← c.column_total-3.ensures) (record { out_after = w.0; value = w.1 })
