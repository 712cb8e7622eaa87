use Rattle.std.proofs.Common.{◌≡◌, ◌≤◌}
use Rattle.object_heap.specs.Bits.{addresses_between}
use Rattle.heap_marking.proofs.live_list.marked_between.Given as goal

-- the addresses of the words so far
abbrev pub invariant-loop-index : goal.invariant-loop-index
invariant-loop-index l = record {
  listed : l.live.items ≡ addresses_between l.words l.first l.index;
  low : l.first ≤ l.index;
}
