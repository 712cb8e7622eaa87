use Rattle.std.proofs.Common.{◌-◌, ◌≡◌, ◌≤◌}
use Rattle.summary.specs.WordMoves.{slid}
use Rattle.fill.proofs.region.guide.Guide.first_from.Given as goal

abbrev pub invariant-loop-place : goal.invariant-loop-place
invariant-loop-place l = record {
  after : l.span.start ≤ l.at;
  inside : l.at ≤ l.span.end;
  place : l.place ≡ slid l.self l.at;
  low : l.place ≤ l.to;
}

abbrev pub decreases-loop-place : goal.decreases-loop-place
decreases-loop-place l = l.to - l.place
