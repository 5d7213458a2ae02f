use Rattle.nektawul.proofs.Shown.{advance_handed}
use Rattle.nektawul.proofs.cursor.nektawul_advance.Goals as goal

pub returns : goal.returns
returns c =
    advance_handed _ _ c.advance-found.result c.header_of-h.ensures c.cursor_of-c.ensures c.advance-found.ensures c.found_answer.ensures c.from.ensures c.keep_cursor.ensures
