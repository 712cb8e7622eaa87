use Rattle.std.proofs.Common.{◌<◌, ◌≤◌, take, All}
use Rattle.heap_dump.proofs.totals.class_count.Given as goal

abbrev pub invariant-loop-object : goal.invariant-loop-object
invariant-loop-object l = record {
  below : All (λ o. o.class < l.count) (take l.object-index l.objects);
  few : l.count ≤ 4294967296;
}
