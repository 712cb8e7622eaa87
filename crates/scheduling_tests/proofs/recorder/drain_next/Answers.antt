use Rattle.std.proofs.Common.{sym, subst}
use Rattle.claim_board.specs.Boards.{caller}
use Rattle.claim_board.specs.Callers.{Caller}
use Rattle.claim_board.specs.RegionBoards.{moves}
use Rattle.claim_board.specs.Tickets.{IsTicketOf}
use Rattle.scheduling_tests.proofs.recorder.drain_next.Goals as goal

pub returns-in_err-opening-clause-ticket : goal.returns-in_err-opening-clause-ticket
returns-in_err-opening-clause-ticket g c =
    let m = moves c.args.setting.now.recorder.board in
    let same = c.in_err-opening.ensures.caller in
    subst (λ (x : Caller). IsTicketOf m x c.open.new.ticket.ticket) (sym same) (c.in_err-opening.ensures.stays m (caller c.args.seat.now.pass) c.requires.ticket)
