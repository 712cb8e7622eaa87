-- What a call leaves of the tickets for other regions.
use Rattle.std.proofs.Common.{◌≢◌, ℕ, Some, sym, ap, ◌∙◌, subst}
use Rattle.scheduler.specs.declared.event.Event.{Event}
use Rattle.scheduler.specs.declared.reply.Reply.{Reply}
use Rattle.scheduler.specs.MoveTable.{MoveTable}
use Rattle.scheduler.specs.State.{State}
use Rattle.scheduler.specs.History.{AgreeOn}
use Rattle.claim_board.specs.declared.board.Board.{Board}
use Rattle.claim_board.specs.declared.tokens.done.Done.{Done}
use Rattle.claim_board.specs.declared.pass.Pass.{Pass}
use Rattle.claim_board.specs.Boards.{moves, caller, Appends, AppendsTo}
use Rattle.claim_board.specs.Callers.{Caller, own, Gains}
use Rattle.claim_board.specs.Tickets.{IsDoneOf, Spares}
use Rattle.claim_board.specs.Others.{LeavesOthers}
use Rattle.claim_board.proofs.Lemmas.Sweeps.{gained, spared, leaves_tickets}

pub leaves_dones : (old new : Caller) (d : Done) (event : Event) (reply : Reply) → IsDoneOf old d → Gains old new event reply → Spares d.region event → IsDoneOf new d
leaves_dones old new d event reply is g apart =
    record {
      board = is.board ∙ ap Some (sym g.board);
      claimed = a.claimed ∙ (is.claimed ∙ ap Some (sym g.worker));
      filled = a.filled ∙ is.filled;
      unsettled = a.settled ∙ is.unsettled;
    }
  where
    a : AgreeOn d.region (own new) (own old)
    a = subst (λ (st : State). AgreeOn d.region st (own old)) (sym (gained old new event reply g)) (spared d.region old.worker (own old) event reply is.claimed apart)

-- a call that changes nothing but region r
pub leaves : (m : MoveTable) (r : ℕ) (old new : Caller) (event : Event) (reply : Reply) → Gains old new event reply → ((q : ℕ) → q ≢ r → Spares q event) → LeavesOthers m r old new
leaves m r old new event reply g spares =
    record {
      tickets = λ t apart is. leaves_tickets m old new t event reply is g (spares t.region apart);
      dones = λ d apart is. leaves_dones old new d event reply is g (spares d.region apart);
    }

-- a call of a pass, as one of its caller's
pub gains_to : (m : MoveTable) (workers : ℕ) (old new : Pass) (event : Event) (reply : Reply) → AppendsTo m workers old new event reply → Gains (caller old) (caller new) event reply
gains_to m workers old new event reply e = let x = e.history in record { board = e.board; worker = e.worker; seen = (x.before, x.begins, x.seen_is); mine = x.mine_is }

-- a call of a board
pub gains_call : (b : Board) (old new : Pass) (event : Event) (reply : Reply) → Appends b old new event reply → Gains (caller old) (caller new) event reply
gains_call b old new event reply e = let x = e.history in record { board = e.board; worker = e.worker; seen = (x.before, x.begins, x.seen_is); mine = x.mine_is }

pub leaves_call : (b : Board) (r : ℕ) (old new : Pass) (event : Event) (reply : Reply) → Appends b old new event reply → ((q : ℕ) → q ≢ r → Spares q event) → LeavesOthers (moves b) r (caller old) (caller new)
leaves_call b r old new event reply e spares = leaves (moves b) r (caller old) (caller new) event reply (gains_call b old new event reply e) spares
