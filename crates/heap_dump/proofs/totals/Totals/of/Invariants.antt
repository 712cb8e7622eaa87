use Rattle.std.proofs.Common.{◌≡◌, take}
use Rattle.heap_dump.specs.Totals.{sums_of}
use Rattle.heap_dump.proofs.totals.Totals.of.Given as goal

abbrev pub invariant-loop-object : goal.invariant-loop-object
invariant-loop-object l = l.totals ≡ sums_of (take l.object-index l.objects)
