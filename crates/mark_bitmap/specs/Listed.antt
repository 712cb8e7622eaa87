-- A heap whose live objects are listed.
use Rattle.object_heap.specs.HeapImage.{HeapImage}
use Rattle.mark_bitmap.specs.declared.listed.Subject.{Subject}
use Rattle.mark_bitmap.specs.declared.listed.Subject.TheVariants.{Image, Objects}

-- the image, as contracts see it
abbrev pub image_of : Subject → HeapImage
image_of (Image image) = image.now
image_of (Objects objects) = objects.now
