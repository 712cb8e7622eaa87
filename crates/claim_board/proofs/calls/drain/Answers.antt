use Rattle.std.proofs.Common.{ℕ, Some, sym, ap, ◌∙◌, subst}
use Rattle.std.specs.Prelude.{not}
use Rattle.std.proofs.lemmas.Bool.{and_parts}
use Rattle.scheduler.specs.State.{IsFilling}
use Rattle.scheduler.specs.MoveTable.{reads}
use Rattle.scheduler.specs.History.{state_of}
use Rattle.claim_board.specs.Rule.{drain_reply}
use Rattle.claim_board.specs.Views.{worker_of, seen_of, mine_of}
use Rattle.claim_board.proofs.Lemmas.Spends.{Fills, drained_now, some_left}
use Rattle.claim_board.proofs.calls.drain.Goals as goal

pub overflow_sub-ticket : goal.overflow_sub-ticket
overflow_sub-ticket c =
    let t = c.requires.ticket in
    let x = c.requires.closed in
    some_left c.how_counts_go_down.ensures c.args.words.now.key.moves c.requires.lawful c.args.closed.destination c.args.ticket.now.region c.args.closed.source c.args.ticket.now.left (state_of (mine_of c.args.pass.now.place.me.0)) x.destination x.undrained t.left

pub drain-requires-clause-region : goal.drain-requires-clause-region
drain-requires-clause-region c =
    let m = c.args.words.now.key.moves in
    let d = c.args.closed.destination in
    let s = c.args.closed.source in
    let p = and_parts (reads m d s) (not ((state_of (mine_of c.args.pass.now.place.me.0)).drained d s)) c.requires.closed.undrained in
    (c.pairs_slide_down.ensures m d s c.requires.lawful p.0).1

pub drain-requires-clause-filling : goal.drain-requires-clause-filling
drain-requires-clause-filling c =
    let v = c.args.pass.now.place.me.0 in
    subst (λ (r : ℕ). IsFilling (state_of (mine_of v)) (worker_of v) r) (sym c.requires.closed.destination) c.requires.ticket.filling

pub returns-clause-ticket : goal.returns-clause-ticket
returns-clause-ticket c =
    let e = c.drain.ensures.added.0 in
    let k = c.args.words.now.key in
    let v = c.args.pass.now.place.me.0 in
    let u = c.drain.new.seat.me.0 in
    let t = c.requires.ticket in
    let x = c.requires.closed in
    let r = c.args.ticket.now.region in
    let was : Fills k.moves (worker_of v) r c.args.ticket.now.next c.args.ticket.now.left (state_of (mine_of v)) = record { filling = t.filling; unsettled = t.unsettled; ahead = t.ahead; left_is = t.left } in
    let now = drained_now c.how_counts_go_down.ensures k.moves c.requires.lawful k.workers (worker_of v) c.args.closed.destination r c.args.closed.source c.args.ticket.now.next c.args.ticket.now.left (drain_reply c.drain.result)
    (seen_of v) (mine_of v) (seen_of u) (mine_of u) e.2 x.destination x.opened x.undrained was in
    record {
      board = t.board ∙ ap Some (sym c.drain.ensures.table);
      worker = t.worker ∙ ap Some (sym e.1);
      inside = t.inside;
      filling = subst (λ (w : ℕ). IsFilling (state_of (mine_of u)) w r) (sym e.1) now.filling;
      unsettled = now.unsettled;
      ahead = now.ahead;
      left = now.left_is;
    }
