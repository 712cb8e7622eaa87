-- The regions of a valid image.
use Rattle.std.proofs.Common.{◌≡◌, ℕ, ◌+◌, ◌*◌, ◌<◌, ◌≤◌, length, drop, arith, length-drop}
use Rattle.std.proofs.Math.Nat.{mul-le-mul_right}
use Rattle.std.proofs.lemmas.List.{length-take-le}
use Rattle.std.proofs.lemmas.Nat.{div-add-mod'}
use Rattle.object_heap.specs.HeapImage.{HeapImage, IsValid, heap_words, region_count, region_words, start_of, block_of}

module _ (image : HeapImage) (valid : IsValid image) (r : ℕ) (below : r < region_count image) where
  pub region_fits : start_of image r + region_words image ≤ heap_words image
  region_fits =
      let size : ℕ = region_words image in
      let whole = div-add-mod' (heap_words image) size in
      let none = valid.limits.whole_regions in
      let next : r + 1 ≤ region_count image = omega arith in
      let up : (r + 1) * size ≤ region_count image * size = mul-le-mul_right size next in
      let same : (r + 1) * size ≡ r * size + size = omega arith in
      omega arith

  pub region_long : length (block_of image r) ≡ region_words image
  region_long =
      let fits = region_fits in
      let left = length-drop (start_of image r) image.words in
      length-take-le (region_words image) (drop (start_of image r) image.words) (omega arith)
