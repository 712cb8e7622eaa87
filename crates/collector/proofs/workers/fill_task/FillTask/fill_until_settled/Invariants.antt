use Rattle.std.proofs.Common.{◌≡◌}
use Rattle.claim_board.specs.Boards.{board_of}
use Rattle.claim_board.specs.RegionBoards.{identity}
use Rattle.collector.specs.Rest.{IsAtRest}
use Rattle.collector.proofs.workers.fill_task.FillTask.fill_until_settled.Given as goal

-- the pass stays one of the board's, and its worker at rest
abbrev pub invariant-loop : goal.invariant-loop
invariant-loop g l = record {
  board : board_of l.worker.seat.pass ≡ identity (g.D.HasBoard.keeps l.self.shared.now.desk);
  rest : IsAtRest l.initial.worker.seat.pass l.worker.seat.pass;
}
