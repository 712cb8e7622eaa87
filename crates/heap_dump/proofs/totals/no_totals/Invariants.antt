use Rattle.std.proofs.Common.{◌≡◌, ◌<◌, ℕ, [], get_or, length}
use Rattle.heap_dump.specs.Totals.{sums_in}
use Rattle.heap_dump.specs.declared.totals.ClassTotals.{ClassTotals}
use Rattle.heap_dump.proofs.totals.no_totals.Given as goal

abbrev pub invariant-loop-class : goal.invariant-loop-class
invariant-loop-class l = record {
  len : length l.totals.items ≡ l.class;
  each : (k : ℕ) (d : ClassTotals) → k < l.class → get_or l.totals.items k d ≡ sums_in k [];
}
