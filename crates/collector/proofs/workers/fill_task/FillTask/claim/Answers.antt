use Rattle.summary.specs.RegionData.{fill_count}
use Rattle.claim_board.specs.RegionBoards.{moves, worker_count}
use Rattle.collector.specs.declared.workers.held_region.HeldRegion.{HeldRegion}
use Rattle.collector.proofs.Lemmas.Rest.{rest_refused, holds_claimed}
use Rattle.collector.proofs.workers.fill_task.FillTask.claim.Goals as goal

pub returns-in_err-ticket-clause-refused : goal.returns-in_err-ticket-clause-refused
returns-in_err-ticket-clause-refused g c =
    let b = g.D.HasBoard.keeps c.args.self.now.shared.now.desk in
    let e = c.in_err-ticket.ensures in
    rw c.from_residual.ensures (rest_refused (moves b) (worker_count b) c.args.seat.now.pass c.claim.new.seat.pass c.args.region e.entry e.refused c.requires.rest).1

pub returns-clause-claimed : goal.returns-clause-claimed
returns-clause-claimed g c =
    let b = g.D.HasBoard.keeps c.args.self.now.shared.now.desk in
    let h : HeldRegion = record { ticket = c.in_ok-ticket.ticket; region = c.in_ok-ticket.region } in
    let e = c.in_ok-ticket.ensures in
    let t = e.ticket in
    (t.0, holds_claimed b (fill_count c.args.self.now.shared.now.survey) c.args.seat.now.pass c.claim.new.seat.pass c.args.region h e.entry t.0 t.1 t.2 e.holds e.words e.place c.requires.region c.requires.rest)
