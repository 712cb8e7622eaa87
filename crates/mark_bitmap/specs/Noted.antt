-- How the logic stores an image.
use Rattle.object_heap.specs.HeapImage.{HeapImage}
use Rattle.heap_image.specs.contracts.image.Image.{the_row}
use base.Stored.{Coded}

abbrev pub image_coded : Coded HeapImage
image_coded = the_row.coded
