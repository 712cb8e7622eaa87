use Rattle.std.proofs.Common.{◌≡◌, ◌<◌, ◌≤◌, ℕ, length, get_or}
use Rattle.summary.specs.RegionData.{fill_count}
use Rattle.claim_board.specs.Boards.{worker}
use Rattle.collector.specs.declared.workers.worker.Worker.{Worker}
use Rattle.collector.specs.Rest.{Rests, Leaves, AreOf}
use Rattle.collector.proofs.workers.fill_left.fill_held.Given as goal

-- those so far are at rest, and the others are as they were
abbrev pub invariant-loop-worker : goal.invariant-loop-worker
invariant-loop-worker g l =
    let board = g.D.HasBoard.keeps l.task.shared.now.desk in
    record {
      number : l.number ≡ l.worker-index;
      long : length l.workers ≡ length l.initial.workers;
      seats : AreOf board l.workers;
      numbered : (k : ℕ) (w : Worker) → k < length l.workers → worker (get_or l.workers k w).seat.pass ≡ k;
      done : (k : ℕ) (w : Worker) → k < l.worker-index → Rests (get_or l.workers k w).seat.pass;
      rest : (k : ℕ) (w : Worker) → l.worker-index ≤ k → k < length l.workers
          → Leaves board (fill_count l.task.shared.now.survey) (get_or l.workers k w).result (get_or l.workers k w).seat.pass;
    }
