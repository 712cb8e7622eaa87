use Rattle.std.proofs.Common.{◌≡◌, ◌-◌, ◌%◌, ◌≤◌, ◌<◌}
use Rattle.verification.specs.Compared.{AreCompacted}
use Rattle.verification.proofs.comparison.Comparison.other_in_gap.Given as goal

abbrev pub invariant-loop-at : goal.invariant-loop-at
invariant-loop-at l = record {
  low : l.from ≤ l.at;
  high : l.at ≤ l.to;
  cut : l.at < l.to → 0 < l.at % 2147483648 → l.at ≡ l.from;
  alike : AreCompacted l.self.before.now l.self.after.now l.from l.at;
}

abbrev pub decreases-loop-at : goal.decreases-loop-at
decreases-loop-at l = l.to - l.at
