use Rattle.std.proofs.Common.{◌≡◌, ◌≢◌, ℕ, sym, ◌∙◌, subst}
use Rattle.scheduler.specs.declared.event.Event.TheVariants.{Drain}
use Rattle.claim_board.specs.Drains.{reply_of}
use Rattle.scheduling_tests.proofs.tickets.drains.Goals as goal

pub loop-opening-preserved : goal.loop-opening-preserved
loop-opening-preserved c =
    let i = c.loop-opening.invariant in
    let b = c.args.board.now in
    let r = c.args.ticket.now.region in
    let e = c.drain-answer.ensures in
    let d = c.close.result.destination in
    let here : d ≡ r = c.close.ensures.pair.0 ∙ (c.in-Some.ensures.reads.0 ∙ i.2) in
    let more = c.appended_calls_leave_others.ensures b r c.loop-opening.pass c.drain-answer.new.pass (Drain d c.close.result.source) (reply_of c.drain-answer.result) e.entry (λ q apart. subst (λ (x : ℕ). q ≢ x) (sym here) apart) in (
      e.entry.board ∙ i.0,
      c.note.ensures,
      e.same.0 ∙ (c.in-Some.ensures.same.0 ∙ i.2),
      e.ticket,
      record {
        tickets = λ t apart is. more.tickets t apart (i.4.tickets t apart is);
        dones = λ d apart is. more.dones d apart (i.4.dones d apart is);
      },
    )
