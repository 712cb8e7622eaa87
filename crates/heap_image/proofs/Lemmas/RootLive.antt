-- The roots of an image with roots are few.
use Rattle.std.proofs.Common.{◌^◌, ◌<◌, List, [], ℕ, length, arith}
use Rattle.std.specs.Prelude.{Option, None, Some, IfSome}
use Rattle.object_heap.specs.HeapImage.{HeapImage, AreRoots, IsValid, roots_or, roots_of}

pub roots-few : (image : HeapImage) → IsValid image → length (roots_of image) < 2 ^ 32
roots-few image valid = each image.roots valid.rooted
  where
    each : (roots : Option (List ℕ)) → IfSome roots (AreRoots image) → length (roots_or [] roots) < 2 ^ 32
    each None h = omega arith
    each (Some roots) h = h.counted
