-- Two bytes, side by side.
use Rattle.sequence.proofs.Fields.{bytes_field}
use Rattle.sequence.proofs.file.file_places.Goals as goal

pub returns : goal.returns
returns c = bytes_field c.args.file.now _ 5 1 c.from_le_bytes.ensures c.bytes.ensures
