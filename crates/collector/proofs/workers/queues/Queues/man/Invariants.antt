use Rattle.std.proofs.Common.{◌≡◌, ◌+◌, ◌≤◌, ◌++◌, map, reverse, vec_len, None, Err}
use Rattle.std.specs.Prelude.{All}
use Rattle.std.specs.Vec.{vec_capacity}
use Rattle.collector.specs.declared.workers.end.End.TheVariants.{Stopped}
use Rattle.collector.proofs.workers.queues.Queues.man.Given as goal

-- a worker for each pass so far, which hasn't begun, with its queue
abbrev pub invariant-loop-pass : goal.invariant-loop-pass
invariant-loop-pass l = record {
  workers : map (λ w. w.seat.pass) l.workers.items ++ reverse l.passes.items ≡ l.fn.passes.items;
  queues : vec_len l.queues ≡ vec_len l.passes;
  count : vec_len l.workers + vec_len l.passes ≡ vec_len l.fn.passes;
  room : vec_len l.fn.passes ≤ vec_capacity l.workers;
  idle : All (λ w. w.result ≡ Err (Stopped None)) l.workers.items;
}

abbrev pub decreases-loop-pass : goal.decreases-loop-pass
decreases-loop-pass l = vec_len l.passes
