-- What contracts see of a collection in steps.
use Rattle.std.specs.Prelude.{ℕ, List, Option}
use Rattle.std.specs.Arc.{arc_value}
use Rattle.object_heap.specs.HeapImage.{HeapImage}
use Rattle.collector.specs.SessionIds.{SessionHeap}
use Rattle.collector.specs.declared.session.share.Share.{Share}

-- what the session of a share compacts
abbrev pub heap_of : Share → SessionHeap
heap_of share = (arc_value share.returned).heap

-- its image, which says where the objects lie
abbrev pub image_of : Share → HeapImage
image_of share = (heap_of share).image

-- the words of its regions, if its objects are opaque
abbrev pub held_of : Share → Option (List (List ℕ))
held_of share = (heap_of share).held
