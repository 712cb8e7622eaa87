use Rattle.std.proofs.Common.{Some, refl, sym, ap, ◌∙◌}
use Rattle.scheduler.specs.History.{state_of}
use Rattle.claim_board.specs.Views.{worker_of, seen_of, mine_of}
use Rattle.claim_board.proofs.Lemmas.Spends.{completed_now}
use Rattle.claim_board.proofs.calls.complete.Goals as goal

pub complete-requires-clause-drained : goal.complete-requires-clause-drained
complete-requires-clause-drained c =
    let m = c.args.words.now.key.moves in
    λ s. (c.how_counts_go_down.ensures m (state_of (mine_of c.args.pass.now.place.me.0)) c.requires.lawful).no_source c.args.ticket.region s (sym c.requires.ticket.left ∙ c.requires.none_left)

pub returns-clause-done : goal.returns-clause-done
returns-clause-done c =
    let e = c.complete.ensures.added.1.0 in
    let k = c.args.words.now.key in
    let v = c.args.pass.now.place.me.0 in
    let u = c.complete.new.seat.me.0 in
    let t = c.requires.ticket in
    let now = completed_now k.moves k.workers (worker_of v) c.args.ticket.region (seen_of v) (mine_of v) (seen_of u) (mine_of u) e.2 t.filling t.unsettled in (
      refl,
      record {
        board = t.board ∙ ap Some (sym c.complete.ensures.table);
        claimed = now.claimed ∙ ap Some (sym e.1);
        filled = now.filled;
        unsettled = now.unsettled;
      },
    )
