use Rattle.std.proofs.Common.{rules}
use borrow.Author.Tests.{tests}
use Rattle.arena.proofs.Ranges.{places_down}
use Rattle.arena.proofs.Searching.{last_found}
use Rattle.arena.proofs.find.last_live.Goals as goal

pub returns : goal.returns
returns c =
    last_found c.args.generations.now c.args.m _ c.find.result c.find.ensures.ran
    (places_down c.args.m _ c.rev.ensures.source c.new.ensures.start c.new.ensures.end c.new.ensures.exhausted)
    (λ x b q k. search (rules, tests))
