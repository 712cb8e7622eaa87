use Rattle.std.proofs.Common.{◌≡◌}
use Rattle.summary.specs.LiveObjects.{object_at}
use Rattle.summary.specs.NewAddresses.{new_end_of}
use Rattle.verification.specs.Compared.{behind}
use Rattle.verification.specs.Explanation.{IsTallyOf}
use Rattle.verification.proofs.comparison_explained.WordComparison.tally.Given as goal

abbrev pub invariant-loop-a : goal.invariant-loop-a
invariant-loop-a l = record {
  next : l.next ≡ behind (λ i. new_end_of l.self.before.now (object_at l.self.before.now i)) l.a-index;
  tally : IsTallyOf l.self.before.now l.self.after.now l.next l.tally;
}
