-- A space, the answer's text and three numbers.
use Rattle.listing.specs.Parts.{answer_text}
use Rattle.model.specs.Listing.{bytes}
use Rattle.listing.proofs.Texts.{written_then}
use Rattle.listing.proofs.line.write_answer.Goals as goal

pub returns-clause-written : goal.returns-clause-written
unfolding bytes answer_text
returns-clause-written c =
    rw (← c.shown-message.ensures.ptr, ← c.shown-message.ensures.value)
    (written_then
    (written_then
    (written_then (written_then c.write_text-at.ensures c.write_result-at.ensures.written) c.write_number-at.ensures.written)
    c.write_number-at-2.ensures.written)
    c.write_number.ensures.written)
