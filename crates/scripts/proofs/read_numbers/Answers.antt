use Rattle.std.proofs.Common.{◌<◌, ◌≤◌, ◌∙◌, ap, sym, length, get_or, append_assoc, length-append, arith, rules}
use Rattle.std.specs.Option.{option_to_list}
use Rattle.scripts.specs.Numbers.{next_digit, read_on}
use Rattle.scripts.proofs.Turns.{number_on, number_ends, first_numbers, all_numbers, one_number}
use Rattle.scripts.proofs.read_numbers.Goals as goal
use Rattle.scripts.proofs.read_numbers.Goals.{in-Some, in-None+in_ok-add-in-None}

pub loop-b-preserved : goal.loop-b-preserved
loop-b-preserved c =
    let i : c.loop-b.b-index < length c.args.text.now = omega arith in
    let made = ap (λ n. read_on n (get_or c.args.text.now c.loop-b.b-index 0)) (sym c.unwrap_or.ensures) ∙ sym c.read_on.ensures in
    let before = c.loop-b.invariant in
    let room : length c.loop-b.all.items < c.args.most = search rules in
    elim c.match-read_on.branch [
      | in-Some w ↦
          let t = number_on next_digit c.loop-b.number c.args.text.now c.loop-b.b-index w.in-Some.x i (made ∙ w.in-Some.is) in
          (rw (w.all-is, w.number-is, ← t) before.0, rw w.all-is before.1)
      | in-None+in_ok-add-in-None w ↦
          let t = number_ends next_digit c.loop-b.number c.args.text.now c.loop-b.b-index i (made ∙ w.in-None.is) in
          let long = length-append c.loop-b.all.items (option_to_list c.loop-b.number) in (
            rw (w.all-is, w.number-is, w.in_ok-add-in-None.ensures, append_assoc, ← t) before.0,
            rw (w.all-is, w.in_ok-add-in-None.ensures) (omega (arith, long, one_number c.loop-b.number)),
          )
    ]

pub returns-in_ok-add : goal.returns-in_ok-add
returns-in_ok-add c =
    all_numbers next_digit c.loop-b.all.items _ c.args.text.now c.loop-b.number c.loop-b.b-index c.args.most c.loop-b.invariant.0 c.loop-b-test.false
    (search rules) c.in_ok-add.ensures
