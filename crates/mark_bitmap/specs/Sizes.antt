-- What says the sizes of live objects.
use Rattle.std.specs.Prelude.{◌≡◌, length}
use Rattle.object_heap.specs.HeapImage.{HeapImage, words_alone}
use Rattle.object_heap.specs.Sizes.{AreSizes, AreSizesOf}
use Rattle.mark_bitmap.specs.declared.sizes.Sizes.{Sizes}
use Rattle.mark_bitmap.specs.declared.sizes.Sizes.TheVariants.{Noted, Listed, InHeaders}

-- it says those of the live objects of this image
abbrev pub AreSizesBy : HeapImage → Sizes → Type 0
AreSizesBy image (Noted pieces) = AreSizes image pieces.now
AreSizesBy image (Listed sizes) = (length sizes.now ≡ length image.live) × AreSizesOf image image.live sizes.now
AreSizesBy image (InHeaders heap) = heap ≡ words_alone image
