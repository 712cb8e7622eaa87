-- What marks were made of.
use Rattle.object_heap.specs.HeapImage.{HeapImage}
use Rattle.mark_bitmap.specs.declared.surveyed.Subject.{Subject}
use Rattle.mark_bitmap.specs.declared.surveyed.Subject.TheVariants.{Image, Objects}

-- the image, as contracts see it
abbrev pub image_of_subject : Subject → HeapImage
image_of_subject (Image image) = image.value
image_of_subject (Objects objects) = objects.image
