-- What an image keeps about its live objects besides their list.
use Rattle.std.specs.Prelude.{ℕ, List, Option, length, IfSome}
use Rattle.std.specs.List.{concat}
use Rattle.object_heap.specs.Bits.{MarkBegins}
use Rattle.object_heap.specs.HeapImage.{AreValidParts, image_of}
use Rattle.object_heap.specs.Sizes.{AreSizes}
use Rattle.object_heap.specs.declared.version.Version.{Version}

-- the parts are those of a valid image, and the bits and the sizes, if there are any, are those of its live objects
pub record AreKept (version : Version) (region_log allowance : ℕ) (blocks : List (List ℕ)) (live : List ℕ) (roots : Option (List ℕ)) (begins : Option (List ℕ)) (sizes : Option (List (List ℕ))) : Type 0 where
  pub parts : AreValidParts version region_log allowance blocks live roots
  pub marked : IfSome begins (MarkBegins live (length (concat blocks)))
  pub sized : IfSome sizes (AreSizes (image_of region_log 0 blocks live))
