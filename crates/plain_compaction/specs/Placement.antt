-- What the plain program keeps: the prefix end of an image, and the new addresses of its live objects.
use Rattle.std.specs.Prelude.{◌≡◌, ℕ, ◌^◌, ◌<◌}
use Rattle.object_heap.specs.HeapImage.{HeapImage}
use Rattle.summary.specs.NewAddresses.{prefix_end, new_live, new_top}
use Rattle.plain_compaction.specs.declared.plainly.Placement.{Placement}

pub record IsPrefix (image : HeapImage) (prefix : ℕ) : Type 0 where
  pub exact : prefix ≡ prefix_end image
  pub small : prefix < 2 ^ 37

pub record IsPlacement (image : HeapImage) (places : Placement) : Type 0 where
  pub prefix : IsPrefix image places.prefix_end
  pub live : places.new_live.items ≡ new_live image
  pub top : places.new_top ≡ new_top image
