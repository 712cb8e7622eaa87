use Rattle.std.proofs.Common.{◌≡◌, ◌+◌, ◌*◌, ◌^◌, ◌++◌, length}
use Rattle.std.specs.List.{concat}
use Rattle.object_heap.specs.HeapImage.{AreBlocks}
use Rattle.caller_heap.proofs.heap_words.regions_of.Given as goal

-- the regions so far have the words before the rest
abbrev pub invariant-loop-r : goal.invariant-loop-r
invariant-loop-r l = record {
  whole : AreBlocks l.fn.size.region_log l.regions.items;
  count : length l.regions.items ≡ l.r;
  words : concat l.regions.items ++ l.rest ≡ l.words;
  left : length l.rest + l.r * 2 ^ l.fn.size.region_log ≡ l.fn.size.regions * 2 ^ l.fn.size.region_log;
}
