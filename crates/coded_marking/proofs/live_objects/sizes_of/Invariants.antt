use Rattle.std.proofs.Common.{◌≡◌, take}
use Rattle.std.specs.Prelude.{map}
use Rattle.object_heap.specs.HeapImage.{size_at}
use Rattle.coded_marking.proofs.live_objects.sizes_of.Given as goal

-- the sizes of the first objects
abbrev pub invariant-loop-address : goal.invariant-loop-address
invariant-loop-address l = l.sizes.items ≡ map (size_at l.heap) (take l.address-index l.addresses)
