use Rattle.std.proofs.Common.{◌≡◌, ◌-◌, ◌%◌, ◌≤◌, ◌<◌}
use Rattle.verification.specs.Explanation.{IsTallyOf}
use Rattle.verification.proofs.comparison_explained.WordComparison.compare_gap.Given as goal

abbrev pub invariant-loop-at : goal.invariant-loop-at
invariant-loop-at l = record {
  low : l.from ≤ l.at;
  high : l.at ≤ l.to;
  cut : l.at < l.to → 0 < l.at % 2147483648 → l.at ≡ l.from;
  tally : IsTallyOf l.self.before.now l.self.after.now l.at l.tally;
}

abbrev pub decreases-loop-at : goal.decreases-loop-at
decreases-loop-at l = l.to - l.at
