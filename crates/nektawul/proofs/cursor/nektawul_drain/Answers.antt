use Rattle.nektawul.proofs.Shown.{drain_handed}
use Rattle.nektawul.proofs.cursor.nektawul_drain.Goals as goal

pub returns : goal.returns
returns c =
    drain_handed _ _ _ c.drain-drained.result c.header_of-h.ensures c.cursor_of-c.ensures c.drain-drained.ensures c.drained_answer.ensures c.hand_back.ensures.value
    c.hand_back.ensures.current_after c.keep_cursor.ensures
