use Rattle.std.proofs.Common.{add-one, subst, ◌∙◌}
use Rattle.history.specs.Ledger.{RefusesLine, HasCause}
use Rattle.scheduler.specs.declared.schedule.line.Line.{Line}
use Rattle.history.proofs.Lemmas.Following.{item_is, followed_first, followed_by, followed_all, explained_at}
use Rattle.history.proofs.machine.checking.followed.Goals as goal

pub loop-i-init : goal.loop-i-init
loop-i-init c = followed_first c.args.plan.now c.args.schedule.now c.in_ok-ledger.ledger (rw c.workers.ensures.value at c.in_ok-ledger.ensures.kept) c.in_ok-ledger.ensures.opening

pub loop-i-preserved : goal.loop-i-preserved
loop-i-preserved c =
    let told = c.in_default.ensures in
    rw add-one
    (followed_by c.args.plan.now c.args.schedule.now c.lines-line-items.result.now c.loop-i.i c.loop-i.ledger c.follow.new.self c.line.result c.in_default.field-0 c.lines-line-items.ensures.lines c.loop-i.invariant c.loop-i-test.true (c.line.ensures ∙ item_is c.lines-line-items.result.now c.loop-i.i c.line-item.result c.loop-i-test.true c.line-item.is) told.call told.leads told.kept)

pub returns-in-Err-clause-refused : goal.returns-in-Err-clause-refused
returns-in-Err-clause-refused c =
    explained_at c.args.plan.now c.args.schedule.now c.lines-line-items.result.now c.loop-i.i c.loop-i.ledger c.in-Err.cause c.lines-line-items.ensures.lines c.loop-i.invariant c.loop-i-test.true
    (subst (RefusesLine c.args.plan.now c.loop-i.ledger.scheduler.workers c.loop-i.ledger) (c.line.ensures ∙ item_is c.lines-line-items.result.now c.loop-i.i c.line-item.result c.loop-i-test.true c.line-item.is) c.in-Err.ensures.refused)
    (subst (λ (l : Line). HasCause c.args.plan.now c.loop-i.ledger.scheduler.workers c.loop-i.ledger l c.in-Err.cause) (c.line.ensures ∙ item_is c.lines-line-items.result.now c.loop-i.i c.line-item.result c.loop-i-test.true c.line-item.is) c.in-Err.ensures.cause)

pub returns-clause-taken : goal.returns-clause-taken
returns-clause-taken c = followed_all c.args.plan.now c.args.schedule.now c.lines-line-items.result.now c.loop-i.i c.loop-i.ledger c.is_done.result c.lines-line-items.ensures.lines c.loop-i.invariant c.loop-i-test.false c.is_done.ensures
