use Rattle.std.specs.Prelude.{◌<◌, ◌^◌, All, take}
use Rattle.std.specs.List.{concat}
use Rattle.object_heap.specs.HeapImage.{AreBlocks}
use Rattle.heap_dump.specs.Weak.{DifferOnlyAt, slots_of}
use Rattle.heap_dump.proofs.heap.weak.put_live.Given as goal

abbrev pub invariant-loop-reference : goal.invariant-loop-reference
invariant-loop-reference l = record {
  whole : AreBlocks l.region_log l.regions;
  fit : All (λ w. w < 2 ^ 64) (concat l.regions);
  others : DifferOnlyAt (slots_of (take l.reference-index l.weak)) (concat l.initial.regions) (concat l.regions);
}
