use mathlib.Core.Path.{sym}
use native.Mathlib.Omega.{arith}
use Rattle.model.specs.Store.{tables}
use Rattle.sequence.proofs.Starting.{countable}
use Rattle.sequence.proofs.Stepping.{past, runs}
use Rattle.sequence.proofs.step.step.Goals as goal

pub returns-then-q-command_count-clause-leaves : goal.returns-then-q-command_count-clause-leaves
returns-then-q-command_count-clause-leaves g c =
    let a = c.args in
    let high = rw c.command_count.ensures at c.if-q-command_count.true in
    past g.met.J.Journal.laws (tables a.generations.now a.links.now a.values.now) a.file.now a.q.now a.journal.now
    c.in_ok-check.ensures.refusal_value high

pub overflow_add-q : goal.overflow_add-q
overflow_add-q g c =
    let a = c.args in
    let few = (countable a.file.now (tables a.generations.now a.links.now a.values.now) a.q.now.next (sym c.in_ok-check.ensures.refusal_value)).commands in
    let low = rw c.command_count.ensures at c.if-q-command_count.false in
    omega arith

pub returns-clause-leaves : goal.returns-clause-leaves
returns-clause-leaves g c =
    let a = c.args in
    let low = rw c.command_count.ensures at c.if-q-command_count.false in
    runs g.met.J.Journal.laws (tables a.generations.now a.links.now a.values.now) a.file.now a.q.now a.journal.now
    c.in_ok-check.ensures.refusal_value low c.command_at-c.ensures c.perform_command-answer.ensures
