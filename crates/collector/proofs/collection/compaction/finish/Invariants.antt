use Rattle.std.proofs.Common.{◌≡◌, ◌+◌, ◌≤◌, List, [], vec_len}
use Rattle.std.specs.Prelude.{All}
use Rattle.std.specs.Vec.{vec_capacity}
use Rattle.scheduler.specs.declared.entry.Entry.{Entry}
use Rattle.claim_board.specs.Boards.{board_of, held, AllStand}
use Rattle.claim_board.specs.RegionBoards.{identity}
use Rattle.collector.specs.Rest.{HasAllCalls, AreOf, AreBare, callers_of}
use Rattle.collector.proofs.collection.compaction.finish.Given as goal

-- the passes so far and those of the remaining workers are the board's, hold nothing, and are all there are
abbrev pub invariant-loop-worker : goal.invariant-loop-worker
invariant-loop-worker l = record {
  workers : AreOf l.board l.workers.items;
  bare : AreBare l.workers.items;
  passes : All (λ pass. board_of pass ≡ identity l.board) l.passes.items;
  passes_bare : All (λ pass. held pass ≡ []) l.passes.items;
  room : vec_len l.workers + vec_len l.passes ≤ vec_capacity l.passes;
  count : vec_len l.workers + vec_len l.passes ≡ vec_len l.fn.workers;
  calls : (log : List Entry) → AllStand log l.passes.items → HasAllCalls log (callers_of l.workers.items) → HasAllCalls log (callers_of l.fn.workers.items);
}

abbrev pub decreases-loop-worker : goal.decreases-loop-worker
decreases-loop-worker l = vec_len l.workers
