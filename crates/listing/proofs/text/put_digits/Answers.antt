-- The library's digits, from the first of them to the end of the buffer.
use Rattle.std.proofs.Common.{◌≡◌, ◌≤◌, ◌-◌, ◌∙◌, ap, drop, length, arith, append-nil}
use Rattle.std.proofs.lemmas.List.{take_all}
use Rattle.std.specs.Fmt.{decimal as printed}
use Rattle.std.proofs.lemmas.Fmt.{length-decimal-le}
use Rattle.listing.proofs.Digits.{decimal_printed}
use Rattle.listing.proofs.text.put_digits.Goals as goal

pub write_digits-first-requires : goal.write_digits-first-requires
write_digits-first-requires c = (length-decimal-le 20 c.args.n (omega arith) (omega arith) c.ranges.n.fits, omega arith)

pub returns-clause-written : goal.returns-clause-written
returns-clause-written c =
    let e : drop c.write_digits-first.result c.write_digits-first.new.buf ≡ printed c.args.n = c.write_digits-first.ensures.written ∙ append-nil _ in
    let few : length (drop c.write_digits-first.result c.write_digits-first.new.buf) ≤ 20 - c.write_digits-first.result =
    omega (arith, ap length e, c.write_digits-first.ensures.start) in
    rw (decimal_printed c.args.n c.ranges.n.fits, ← e, ← take_all _ _ few) c.write_at.ensures
