use Rattle.std.proofs.Common.{◌≡◌, ◌≤◌, length, take}
use Rattle.object_heap.specs.Bits.{addresses_between}
use Rattle.heap_marking.proofs.live_list.write_between.Given as goal

-- the addresses of the words so far are written
abbrev pub invariant-loop-index : goal.invariant-loop-index
invariant-loop-index l = record {
  room : length l.list ≡ length l.initial.list;
  next : l.next ≡ length (addresses_between l.words l.first l.index);
  written : take l.next l.list ≡ addresses_between l.words l.first l.index;
  low : l.first ≤ l.index;
}
