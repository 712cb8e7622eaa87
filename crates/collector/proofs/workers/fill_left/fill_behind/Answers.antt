use Rattle.std.proofs.Common.{List, suc, length, ◌∙◌, subst, arith}
use Rattle.std.specs.Prelude.{All}
use Rattle.std.proofs.lemmas.List.{length-map}
use Rattle.std.proofs.lemmas.List.Elements.{All-head, All-map}
use Rattle.scheduler.specs.State.{AllAreSettled}
use Rattle.scheduler.specs.History.{BeginsWith, calls_by, state_of}
use Rattle.claim_board.specs.declared.regions.region_board.RegionBoard.{RegionBoard}
use Rattle.claim_board.specs.Boards.{caller}
use Rattle.claim_board.specs.Callers.{Caller}
use Rattle.claim_board.specs.RegionBoards.{moves, worker_count}
use Rattle.collector.specs.declared.workers.worker.Worker.{Worker}
use Rattle.collector.specs.Rest.{IsTidy, callers_of}
use Rattle.collector.proofs.Lemmas.Behind.{stays_tidy, filled_as_seen, filled_behind, on_ok}
use Rattle.collector.proofs.workers.fill_left.fill_behind.Goals as goal

pub are_settled-requires-clause-rest : goal.are_settled-requires-clause-rest
are_settled-requires-clause-rest g c = (All-head IsTidy (caller c.args.seat.now.pass) (callers_of c.args.others.now) c.requires.rest.tidy, c.requires.bare)

pub fill_rest-requires-clause-rest : goal.fill_rest-requires-clause-rest
fill_rest-requires-clause-rest g c =
    let asked = c.are_settled.ensures.rest in
    let m = c.meet_all.ensures in
    ((stays_tidy (caller c.are_settled.new.pass) (caller c.meet_all.new.pass) m.stays.1 m.stays.2).1 asked.1.0, m.held ∙ asked.1.1)

pub returns-then-are_settled-clause-filled : goal.returns-then-are_settled-clause-filled
returns-then-are_settled-clause-filled g c =
    let board = g.D.HasBoard.keeps c.args.task.now.shared.now.desk in
    filled_as_seen (moves board) (suc (length c.args.others.now)) (caller c.are_settled.new.pass) (callers_of c.args.others.now)
    (λ log longer. subst (λ (b : RegionBoard). AllAreSettled (moves b) (state_of log)) c.board-board.ensures (c.are_settled.ensures.settled c.if-are_settled.true log longer))

pub returns-clause-filled : goal.returns-clause-filled
returns-clause-filled g c =
    let board = g.D.HasBoard.keeps c.args.task.now.shared.now.desk in
    let first : Caller = caller c.args.seat.now.pass in
    let asked : Caller = caller c.are_settled.new.pass in
    let met : Caller = caller c.meet_all.new.pass in
    let done : Caller = caller c.fill_rest.new.seat.pass in
    let others : List Worker = c.meet_all.new.others in
    let m = c.meet_all.ensures in
    let f = c.fill_rest.ensures in
    let hears : All (λ c. BeginsWith (calls_by c.worker met.seen) c.mine) (callers_of others) =
    All-map (λ (c : Caller). BeginsWith (calls_by c.worker met.seen) c.mine) (λ (w : Worker). caller w.seat.pass) others m.heard in
    on_ok c.fill_rest.result _ _ _ _
    (λ rest seen settled. filled_behind (moves board) (suc (length c.args.others.now)) (worker_count board) first met done (callers_of c.args.others.now) (callers_of others)
    c.requires.all (omega (arith, length-map c.args.others.now (λ (w : Worker). caller w.seat.pass))) c.requires.rest
    (m.stays.1 ∙ c.are_settled.ensures.rest.0, λ _. (stays_tidy asked met m.stays.1 m.stays.2).1 c.are_settled.ensures.rest.1.0) m.others hears rest.0 rest.1.0 seen settled)
    f.rest f.seen f.settled
