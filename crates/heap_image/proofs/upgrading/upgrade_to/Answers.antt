use Rattle.std.proofs.Common.{ap}
use Rattle.std.specs.Option.{is_some}
use Rattle.object_heap.specs.HeapImage.{HeapImage}
use Rattle.heap_image.proofs.upgrading.upgrade_to.Goals as goal

pub in_version_three-requires : goal.in_version_three-requires
in_version_three-requires c = ap (λ (image : HeapImage). is_some image.roots) c.in-Ok.ensures.upgraded
