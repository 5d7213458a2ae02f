use Rattle.std.proofs.Common.{ℕ, List, drop, ap, ◌∙◌, rules}
use Rattle.scripts.proofs.Giving.{given_next, numbers_next}
use Rattle.scripts.proofs.lent.Tables.give.Goals as goal

pub loop-k-preserved : goal.loop-k-preserved
loop-k-preserved c = (
  c.after_place-rest.ensures ∙ ap (λ (ws : List ℕ). drop 3 ws) c.loop-k.invariant.0 ∙ numbers_next c.args.numbers.now c.loop-k.k,
  search (rules, given_next),
  search (rules, given_next),
  search (rules, given_next),
  search rules,
  search rules,
  search rules,
)
