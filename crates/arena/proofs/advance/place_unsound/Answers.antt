use Rattle.std.proofs.Common.{rules}
use Rattle.arena.proofs.Draining.{unsound_found}
use Rattle.arena.proofs.advance.place_unsound.Goals as goal

pub returns : goal.returns
returns c = λ l v q e. unsound_found _ q c.args.place e c.is_some_and.ensures (λ p k. search rules)
