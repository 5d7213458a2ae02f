-- Each number's bytes, side by side.
use Rattle.model.specs.Sequence.{command_from}
use Rattle.sequence.proofs.Fields.{bytes_field}
use Rattle.sequence.proofs.file.command_in.Goals as goal

pub returns : goal.returns
unfolding command_from
returns c =
    let part = c.args.part.now in
    let index = bytes_field part _ 2 1 c.from_le_bytes.ensures c.bytes.ensures in
    let generation = bytes_field part _ 4 3 c.from_le_bytes-2.ensures c.bytes-2.ensures in
    let value = bytes_field part _ 8 7 c.from_le_bytes-3.ensures c.bytes-3.ensures in
    cc (c.code_in.ensures, c.byte.ensures)
