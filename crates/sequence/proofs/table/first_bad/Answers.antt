-- The chunks are the commands that the file counts.
use Rattle.std.proofs.Common.{◌≡◌, refl, ◌/◌, sym, length, arith}
use Rattle.model.specs.Refusals.{first_bad}
use Rattle.model.specs.Sequence.{command_count}
use Rattle.sequence.proofs.Finding.{chunk_command, found_first, good_next}
use Rattle.sequence.proofs.table.first_bad.Goals as goal

pub returns-in_err-get : goal.returns-in_err-get
unfolding first_bad
returns-in_err-get c =
    let none : command_count c.args.file.now ≡ 0 = omega (arith, c.in_err-get.ensures.lookup) in
    rw (c.from_residual.ensures, none) refl

pub loop-i-init : goal.loop-i-init
unfolding first_bad
loop-i-init c = refl

pub returns-then-bad_command : goal.returns-then-bad_command
returns-then-bad_command c =
    let counted : length c.as_chunks.result.0.now ≡ length c.in_ok-get.field-0.now / 16 = c.as_chunks.ensures.front_len in
    let at = chunk_command _ _ _ c.loop-i.i c.in_ok-get.ensures.lookup.0.2 c.in_ok-get.ensures.lookup.0.3 c.as_chunks.ensures.front (omega arith) in
    found_first _ _ _ c.loop-i.invariant (rw at at c.if-bad_command.ensures) (omega (arith, counted, c.in_ok-get.ensures.lookup.0.3))

pub loop-i-preserved : goal.loop-i-preserved
loop-i-preserved c =
    let at = chunk_command _ _ _ c.loop-i.i c.in_ok-get.ensures.lookup.0.2 c.in_ok-get.ensures.lookup.0.3 c.as_chunks.ensures.front (omega arith) in
    good_next _ _ c.loop-i.invariant (rw at at (sym c.if-bad_command.ensures))
