use Rattle.std.proofs.Common.{◌≡◌}
use Rattle.scheduler.specs.History.{BeginsWith}
use Rattle.claim_board.specs.Boards.{board_of, worker as worker_of, seen as seen_of}
use Rattle.claim_board.specs.RegionBoards.{moves as moves_of, worker_count, identity}
use Rattle.collector.specs.Rest.{IsAtRest, AreSettledBelow}
use Rattle.collector.proofs.workers.fill_task.FillTask.fill_rest.Given as goal

-- the regions below this one are settled, if all others are at rest
abbrev pub invariant-loop-region : goal.invariant-loop-region
invariant-loop-region g l =
    let b = g.D.HasBoard.keeps l.self.shared.now.desk in
    record {
      board : board_of l.seat.pass ≡ identity b;
      rest : IsAtRest l.initial.seat.pass l.seat.pass;
      seen : BeginsWith (seen_of l.seat.pass) (seen_of l.initial.seat.pass);
      below : AreSettledBelow (moves_of b) (worker_count b) (worker_of l.initial.seat.pass) (seen_of l.initial.seat.pass) (seen_of l.seat.pass) l.region;
    }
