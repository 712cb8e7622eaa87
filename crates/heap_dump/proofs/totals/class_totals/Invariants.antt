use Rattle.std.proofs.Common.{◌≡◌, ◌<◌, ℕ, get_or, length, take, All}
use Rattle.heap_dump.specs.Totals.{sums_in}
use Rattle.heap_dump.specs.declared.totals.ClassTotals.{ClassTotals}
use Rattle.heap_dump.proofs.totals.class_totals.Given as goal

abbrev pub invariant-loop-object : goal.invariant-loop-object
invariant-loop-object l = record {
  all : All (λ o. o.class < length l.totals.items) l.objects;
  each : (k : ℕ) (d : ClassTotals) → k < length l.totals.items → get_or l.totals.items k d ≡ sums_in k (take l.object-index l.objects);
}
