-- Planned slides that several may have.
use Rattle.std.specs.Arc.{arc_value}
use Rattle.object_heap.specs.HeapImage.{HeapImage}
use Rattle.caller_heap.specs.declared.planned_slide.Owner.{Owner}
use Rattle.caller_heap.specs.declared.planned_slide.Owner.TheVariants.{Sole, OneOfSeveral}

-- the image of the slide
abbrev pub image_of_owner : Owner → HeapImage
image_of_owner (Sole slide) = slide
image_of_owner (OneOfSeveral shared) = arc_value shared
