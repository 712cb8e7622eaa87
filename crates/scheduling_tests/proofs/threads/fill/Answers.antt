use Rattle.std.proofs.Common.{◌≡◌, ℕ, ◌<◌, ◌≤◌, false, ◌∙◌, subst}
use Rattle.scheduler.specs.declared.event.Event.{Event}
use Rattle.scheduler.specs.declared.event.Event.TheVariants.{Drain}
use Rattle.scheduler.specs.MoveTable.{MoveTable, IsMoveTable, reads}
use Rattle.claim_board.specs.Boards.{moves, caller}
use Rattle.claim_board.specs.Callers.{Gains}
use Rattle.claim_board.specs.Drains.{reply_of}
use Rattle.scheduling_tests.proofs.threads.fill.Goals as goal

pub drain-requires-clause-ticket : goal.drain-requires-clause-ticket
drain-requires-clause-ticket c = c.in-Some-open.ensures.stays (moves c.args.board.now) (caller c.loop-opening.pass) c.loop-opening.invariant.1

pub loop-opening-preserved : goal.loop-opening-preserved
loop-opening-preserved c =
    let i = c.loop-opening.invariant in
    let o = c.in-Some-open.ensures in
    let e = c.drain.ensures in
    let t = c.loop-opening.ticket in
    let s = c.in-Some-open.opening.source in
    let reply = reply_of c.drain.result in
    let same : Drain c.close.result.destination c.close.result.source ≡ Drain t.region s = λ j. Drain ((c.close.ensures.pair.0 ∙ o.reads.0) j) (c.close.ensures.pair.1 j) in
    let gains : Gains (caller c.loop-opening.pass) (caller c.drain.new.pass) (Drain t.region s) reply =
    subst (λ (event : Event). Gains (caller c.loop-opening.pass) (caller c.drain.new.pass) event reply) same (c.appended_calls_are_gained.ensures c.args.board.now c.loop-opening.pass c.drain.new.pass (Drain c.close.result.destination c.close.result.source) reply e.entry) in
    let skipped = subst (λ (m : MoveTable). (q : ℕ) → t.next ≤ q → q < s → reads m t.region q ≡ false) c.moves-moves.ensures o.least in (
      e.entry.board ∙ i.0,
      e.ticket,
      e.same.0 ∙ (o.same.0 ∙ i.2),
      c.one_more_source_is_drained.ensures (moves c.args.board.now) (caller c.loop-opening.pass) (caller c.drain.new.pass) t c.drain.new.ticket s reply i.3 (e.same.0 ∙ o.same.0) (e.same.1 ∙ o.next) skipped gains,
    )

pub complete-done-requires-clause-ticket : goal.complete-done-requires-clause-ticket
complete-done-requires-clause-ticket c = c.in-Some-right.ensures.stays (moves c.args.board.now) (caller c.loop-opening.pass) (c.in_default-open.ensures.stays (moves c.args.board.now) (caller c.loop-opening.pass) c.loop-opening.invariant.1)

pub complete-done-requires-clause-none_left : goal.complete-done-requires-clause-none_left
complete-done-requires-clause-none_left c =
    let i = c.loop-opening.invariant in
    let t = c.loop-opening.ticket in
    let lawful = subst IsMoveTable c.moves-moves.ensures c.regions-regions.ensures.lawful in
    let last = subst (λ (m : MoveTable). (s : ℕ) → t.next ≤ s → reads m t.region s ≡ false) c.moves-moves.ensures c.in_default-open.ensures.last in
    c.in-Some-right.ensures.same.2 ∙ (c.in_default-open.ensures.same.1 ∙ c.swept_tickets_have_none_left.ensures (moves c.args.board.now) (caller c.loop-opening.pass) t lawful i.1 i.3 last)
