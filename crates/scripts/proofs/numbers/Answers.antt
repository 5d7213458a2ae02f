use Rattle.std.proofs.Common.{◌<◌, ◌∙◌, ap, sym, length, get_or, append_assoc, arith}
use Rattle.scripts.specs.Numbers.{with_digit, longer}
use Rattle.scripts.proofs.Turns.{number_on, number_ends}
use Rattle.scripts.proofs.numbers.Goals as goal
use Rattle.scripts.proofs.numbers.Goals.{in-Some, in-None+in_ok-add-in-None}

pub loop-b-preserved : goal.loop-b-preserved
loop-b-preserved c =
    let i : c.loop-b.b-index < length c.args.text.now = omega arith in
    let made = ap (λ n. longer n (get_or c.args.text.now c.loop-b.b-index 0)) (sym c.unwrap_or.ensures) ∙ sym c.longer.ensures in
    elim c.match-longer.branch [
      | in-Some w ↦
          let t = number_on with_digit c.loop-b.number c.args.text.now c.loop-b.b-index w.in-Some.x i (made ∙ w.in-Some.is) in
          rw (w.all-is, w.number-is, ← t) c.loop-b.invariant
      | in-None+in_ok-add-in-None w ↦
          let t = number_ends with_digit c.loop-b.number c.args.text.now c.loop-b.b-index i (made ∙ w.in-None.is) in
          rw (w.all-is, w.number-is, w.in_ok-add-in-None.ensures, append_assoc, ← t) c.loop-b.invariant
    ]
