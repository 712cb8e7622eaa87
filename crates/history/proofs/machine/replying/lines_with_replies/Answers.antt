use Rattle.std.proofs.Common.{◌+◌, ◌∙◌, ◌∷◌, ◌++◌, [], add-one, refl, ap, subst, inr}
use Rattle.history.specs.Ledger.{RefusesLine}
use Rattle.scheduler.specs.declared.schedule.line.Line.{Line}
use Rattle.history.proofs.Lemmas.Copies.{worker_fits}
use Rattle.history.proofs.Lemmas.Following.{item_is, refused_at}
use Rattle.history.proofs.Lemmas.Replying.{all_replies, first_reply, reply_fits, reply_on}
use Rattle.history.proofs.machine.replying.lines_with_replies.Goals as goal

pub loop-i-init : goal.loop-i-init
loop-i-init c =
    first_reply c.args.plan.now c.args.schedule.now c.in_ok-ledger.ledger c.new-lines.result.items (rw c.workers.ensures.value at c.in_ok-ledger.ensures.kept) c.in_ok-ledger.ensures.opening c.new-lines.ensures.items

pub returns-in_default-clause-fault : goal.returns-in_default-clause-fault
returns-in_default-clause-fault c =
    inr (
      c.loop-i.i + 2,
      refl,
      refused_at c.args.plan.now c.args.schedule.now c.lines-line-items.result.now c.loop-i.i c.loop-i.ledger c.lines-line-items.ensures.lines c.loop-i.invariant.followed c.loop-i-test.true
          (subst (RefusesLine c.args.plan.now c.loop-i.ledger.scheduler.workers c.loop-i.ledger) (c.line-line.ensures ∙ item_is c.lines-line-items.result.now c.loop-i.i c.line-item.result c.loop-i-test.true c.line-item.is) c.in_default.ensures.refused),
    )

pub of-requires : goal.of-requires
of-requires c =
    reply_fits c.args.plan.now c.args.schedule.now c.lines-line-items.result.now c.loop-i.i c.loop-i.ledger c.follow.new.self c.loop-i.lines.items c.line-line.result c.in-Ok.reply
    c.lines-line-items.ensures.lines c.loop-i.invariant c.loop-i-test.true (c.line-line.ensures ∙ item_is c.lines-line-items.result.now c.loop-i.i c.line-item.result c.loop-i-test.true c.line-item.is) c.in-Ok.ensures.call c.in-Ok.ensures.leads
    c.machine_laws.ensures c.planned_image_is_valid.ensures c.lines-line-items.ensures.formed.few

pub loop-i-preserved : goal.loop-i-preserved
loop-i-preserved c =
    rw add-one
    (reply_on c.args.plan.now c.args.schedule.now c.lines-line-items.result.now c.loop-i.i c.loop-i.ledger c.follow.new.self c.loop-i.lines.items c.line-line.result c.in-Ok.reply
    c.lines-line-items.ensures.lines c.loop-i.invariant c.loop-i-test.true (c.line-line.ensures ∙ item_is c.lines-line-items.result.now c.loop-i.i c.line-item.result c.loop-i-test.true c.line-item.is) c.in-Ok.ensures.call c.in-Ok.ensures.leads
    c.push.new.self.items c.in-Ok.ensures.kept (c.in_ok-push.ensures.items ∙ ap (λ (l : Line). c.loop-i.lines.items ++ l ∷ []) c.of.ensures))

pub returns-clause-ok : goal.returns-clause-ok
returns-clause-ok c =
    all_replies c.args.plan.now c.args.schedule.now c.lines-line-items.result.now c.loop-i.i c.loop-i.ledger c.loop-i.lines.items c.is_done.result c.lines-line-items.ensures.lines c.loop-i.invariant c.loop-i-test.false c.is_done.ensures

pub follow-requires-clause-worker : goal.follow-requires-clause-worker
follow-requires-clause-worker c =
    worker_fits c.args.schedule.now c.lines-line-items.result.now c.loop-i.i c.loop-i.ledger c.line-line.result c.lines-line-items.ensures.formed c.lines-line-items.ensures.lines c.loop-i.invariant.followed.kept.workers c.loop-i-test.true
    (c.line-line.ensures ∙ item_is c.lines-line-items.result.now c.loop-i.i c.line-item.result c.loop-i-test.true c.line-item.is)
