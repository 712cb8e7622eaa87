use Rattle.std.proofs.Common.{◌≡◌, length}
use Rattle.work_order.specs.Chains.{AreLongest}
use Rattle.work_order.proofs.chains.longest_chains.Given as goal

abbrev pub invariant-loop-region : goal.invariant-loop-region
invariant-loop-region l = record {
  longest : AreLongest l.plan l.chains.items;
  all : length l.chains.items ≡ l.region;
}
