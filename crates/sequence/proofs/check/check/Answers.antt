-- The tests before the commands, and then the commands.
use Rattle.std.proofs.Common.{◌<◌, ◌^◌, arith}
use Rattle.sequence.proofs.Checks.{early, late_none, late_some, late_fits}
use Rattle.sequence.proofs.check.check.Goals as goal

pub returns-in_err-head_refusal-clause-refusal_value : goal.returns-in_err-head_refusal-clause-refusal_value
returns-in_err-head_refusal-clause-refusal_value c = (early _ c.args.file.now _ _ _ c.in_err-head_refusal.ensures c.from_residual.ensures).0

pub overflow_cast-result : goal.overflow_cast-result
overflow_cast-result c =
    let fits : c.in-Some.bad < 2 ^ 16 = late_fits _ c.args.file.now _ _ c.in_ok-head_refusal.ensures c.in-Some.ensures in omega arith

pub returns-in-None-clause-refusal_value : goal.returns-in-None-clause-refusal_value
returns-in-None-clause-refusal_value c = late_none _ c.args.file.now _ c.in_ok-head_refusal.ensures c.in-None.ensures

pub returns-in-Some-clause-refusal_value : goal.returns-in-Some-clause-refusal_value
returns-in-Some-clause-refusal_value c = late_some _ c.args.file.now _ _ c.in_ok-head_refusal.ensures c.in-Some.ensures
