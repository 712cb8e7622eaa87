use Rattle.std.proofs.Common.{◌≡◌, ◌<◌, ℕ, length, get_or}
use Rattle.scheduler.specs.History.{BeginsWith, calls_by}
use Rattle.claim_board.specs.Boards.{board_of, worker, seen, mine, held, Stays}
use Rattle.claim_board.specs.RegionBoards.{identity}
use Rattle.collector.specs.declared.workers.worker.Worker.{Worker}
use Rattle.collector.specs.Rest.{AreSame, AreOf, AreBare, callers_of}
use Rattle.collector.proofs.workers.fill_left.meet_all.Given as goal

-- those so far were met
abbrev pub invariant-loop-other : goal.invariant-loop-other
invariant-loop-other l = record {
  board : board_of l.pass ≡ identity l.board;
  held : held l.pass ≡ held l.initial.pass;
  seats : AreOf l.board l.others;
  bare : AreBare l.others;
  stays : Stays l.initial.pass l.pass;
  longer : BeginsWith (seen l.pass) (seen l.initial.pass);
  same : AreSame (callers_of l.initial.others) (callers_of l.others);
  long : length l.others ≡ length l.initial.others;
  heard : (k : ℕ) (w : Worker) → k < l.other-index → BeginsWith (calls_by (worker (get_or l.others k w).seat.pass) (seen l.pass)) (mine (get_or l.others k w).seat.pass);
}
