use Rattle.std.proofs.Common.{◌-◌, ◌≤◌, length, take}
use Rattle.coded_marking.specs.Tracing.{IsSteady, Takes}
use Rattle.coded_marking.proofs.tracing.Tracing.take_batch.Given as goal

abbrev pub invariant-loop-count : goal.invariant-loop-count
invariant-loop-count l = record {
  steady : IsSteady l.self;
  takes : Takes l.heap l.initial.self l.self (take l.count l.batch);
  inside : l.count ≤ length l.batch;
}

abbrev pub decreases-loop-count : goal.decreases-loop-count
decreases-loop-count l = length l.initial.batch - l.count
