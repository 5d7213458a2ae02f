use Rattle.std.proofs.Common.{rules}
use Rattle.arena.proofs.Zeroing.{given_all, given_first}
use Rattle.arena.proofs.stack.zero.Goals as goal

pub returns : goal.returns
returns g c =
    let all = given_all g.T.Word.ZERO _ c.fill_with.ensures.ran.0 c.fill_with.new.self c.fill_with.ensures.ran.1 (λ p x q k. search rules) in
    given_first g.T.Word.ZERO c.args.table.now c.fill_with.new.self c.min-n.result c.args.m all c.fill_with.ensures.len c.min-n.ensures
