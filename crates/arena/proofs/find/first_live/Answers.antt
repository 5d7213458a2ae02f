use Rattle.std.proofs.Common.{rules}
use borrow.Author.Tests.{tests}
use Rattle.arena.proofs.Ranges.{places_up}
use Rattle.arena.proofs.Searching.{first_found}
use Rattle.arena.proofs.find.first_live.Goals as goal

pub returns : goal.returns
returns c =
    first_found c.args.generations.now c.args.m _ c.find.result c.find.ensures.ran
    (places_up c.args.m _ c.new.ensures.start c.new.ensures.end c.new.ensures.exhausted)
    (λ x b q k. search (rules, tests))
