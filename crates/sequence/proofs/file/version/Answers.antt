-- Two bytes, side by side.
use Rattle.sequence.proofs.Fields.{bytes_field}
use Rattle.sequence.proofs.file.version.Goals as goal

pub returns : goal.returns
returns c = bytes_field c.args.file.now _ 3 1 c.from_le_bytes.ensures c.bytes.ensures
