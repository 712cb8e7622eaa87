use Rattle.std.proofs.Common.{◌≡◌, ℕ, true, ap, ◌∙◌, subst}
use Rattle.scheduler.specs.MoveTable.{IsMoveTable}
use Rattle.scheduler.specs.History.{state_of}
use Rattle.claim_board.specs.declared.regions.region_board.RegionBoard.{RegionBoard}
use Rattle.claim_board.specs.Boards.{worker, seen, mine}
use Rattle.claim_board.specs.RegionBoards.{moves, worker_count}
use Rattle.collector.specs.declared.workers.held_region.HeldRegion.{HeldRegion}
use Rattle.collector.proofs.Lemmas.Rest.{below_refused, below_filled, begins_all, begins_last}
use Rattle.collector.proofs.workers.fill_task.FillTask.fill_if_unclaimed.Goals as goal

pub returns-in_default-clause-rest : goal.returns-in_default-clause-rest
returns-in_default-clause-rest g c = (c.in_default.ensures.entry.worker, c.in_default.ensures.refused)

pub returns-in_default-clause-seen : goal.returns-in_default-clause-seen
returns-in_default-clause-seen g c =
    let x = c.in_default.ensures.entry.history in
    begins_last (seen c.args.seat.now.pass) x.before (seen c.claim.new.seat.pass) _ x.begins x.seen_is

pub returns-in_default-clause-next : goal.returns-in_default-clause-next
returns-in_default-clause-next g c =
    let b = g.D.HasBoard.keeps c.args.self.now.shared.now.desk in
    let old = c.args.seat.now.pass in
    let new = c.claim.new.seat.pass in
    let table : IsMoveTable (moves b) = subst (λ (x : RegionBoard). IsMoveTable (moves x)) c.board.ensures (subst IsMoveTable c.moves.ensures c.moves_are_lawful.ensures) in
    λ past begins below. below_refused (moves b) (worker_count b) (worker old) past table
    (c.what_legal_histories_keep.ensures (moves b) (worker_count b))
    (c.what_own_calls_tell.ensures (moves b) (worker_count b))
    (λ log r reply legal fills none low. c.lowest_claims_are_granted.ensures.granted (moves b) (worker_count b) log (worker old) r reply table legal fills none low)
    (seen old) (mine old) (seen new) (mine new) c.args.region begins c.requires.rest.0 c.in_default.ensures.entry.history below

pub returns-clause-rest : goal.returns-clause-rest
returns-clause-rest g c = let rest = c.fill_admitted.ensures.rest in (rest.0 ∙ c.in-Some.ensures.entry.worker, rest.1)

pub returns-clause-seen : goal.returns-clause-seen
returns-clause-seen g c =
    let old = seen c.args.seat.now.pass in
    let mid = seen c.claim.new.seat.pass in
    let new = seen c.fill_admitted.new.seat.pass in
    let x = c.in-Some.ensures.entry.history in
    begins_all old mid new c.fill_admitted.ensures.settles.seen (begins_last old x.before mid _ x.begins x.seen_is)

pub returns-clause-next : goal.returns-clause-next
returns-clause-next g c =
    let b = g.D.HasBoard.keeps c.args.self.now.shared.now.desk in
    let old = c.args.seat.now.pass in
    let new = c.fill_admitted.new.seat.pass in
    let region : c.in_ok-claimed.claimed.ticket.ticket.region ≡ c.args.region = ap (λ (h : HeldRegion). h.ticket.ticket.region) c.in_ok-claimed.ensures.same ∙ c.in-Some.ensures.claimed.0 in
    let settled : (state_of (seen new)).settled c.args.region ≡ true = subst (λ (r : ℕ). (state_of (seen new)).settled r ≡ true) region c.fill_admitted.ensures.settles.settled in
    λ past begins below. below_filled (moves b) (worker_count b) (worker old) past (seen old) (seen new) c.args.region below (returns-clause-seen g c) settled
