use Rattle.std.proofs.Common.{◌≤◌, length, All}
use Rattle.std.specs.List.Sorted.{IsStrictlyIncreasing}
use Rattle.heap_dump.proofs.heap.roots.roots_to.Given as goal

abbrev pub invariant-loop-address : goal.invariant-loop-address
invariant-loop-address l = record {
  few : length l.roots.items ≤ l.address;
  inside : All (λ root. root ≤ l.words) l.roots.items;
  so_far : All (λ root. root ≤ l.address) l.roots.items;
  ascend : IsStrictlyIncreasing l.roots.items;
}
