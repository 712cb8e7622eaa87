use Rattle.std.proofs.Common.{◌∙◌}
use Rattle.scheduler.specs.declared.event.Event.TheVariants.{Complete}
use Rattle.scheduler.specs.declared.reply.Reply.TheVariants.{Done}
use Rattle.claim_board.specs.Boards.{caller}
use Rattle.claim_board.specs.RegionBoards.{moves, worker_count}
use Rattle.fill.proofs.Lemmas.Draining.{filled_here}
use Rattle.fill.proofs.region.filling.Filler.fill_region.Goals as goal

pub returns-clause-filled : goal.returns-clause-filled
returns-clause-filled g c =
    let board = g.D.HasBoard.keeps c.args.self.now.desk.now in
    let gains = c.calls_of_passes_are_gained.ensures (moves board) (worker_count board) c.fill.new.seat.pass c.complete.new.seat.pass (Complete c.fill.new.ticket.ticket.region) Done c.complete.ensures.entry in
    filled_here (λ f s h. goal.F-step g f s tt h) c.args.self.now.survey.now c.of.result.guide.now (c.of.ensures.guide ∙ c.new-guide.ensures) (c.moves_of_images.ensures.regions c.args.self.now.survey.now)
    c.args.claimed.0.ticket.region c.of.result.region c.fill.new.ticket.ticket.region (c.of.ensures.region ∙ c.region.ensures) (c.fill.ensures.ticket.region ∙ c.right.ensures.same.0)
    (caller c.args.seat.now.pass) (caller c.fill.new.seat.pass) (caller c.complete.new.seat.pass) c.args.on_last.now c.fill.new.on_last
    c.fill.ensures.drained gains
