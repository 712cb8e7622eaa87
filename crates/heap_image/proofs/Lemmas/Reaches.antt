-- What is reached in any number of steps is what a filter keeps of the addresses.
use Rattle.std.proofs.Common.{◌≡◌, ℕ, zero, suc, ◌≤◌, Bool, List, length, ap, arith, refl}
use Rattle.std.proofs.lemmas.List.FromFn.{length-range_with_len}
use Rattle.std.proofs.lemmas.List.Sums.{length-filter, count_by-le-length}
use Rattle.std.specs.Prelude.{filter}
use Rattle.std.specs.List.{range_with_len}
use Rattle.object_heap.specs.HeapImage.{HeapImage, heap_words, reached_in, reachable}

filter_short : (p : ℕ → Bool) (n : ℕ) → length (filter p (range_with_len 0 n)) ≤ n
filter_short p n = omega (arith, length-filter p (range_with_len 0 n), count_by-le-length p (range_with_len 0 n), length-range_with_len 0 n)

module _ (image : HeapImage) (roots : List ℕ) where
  reached_is : (n : ℕ) → (t : ℕ → Bool) × (reached_in image roots n ≡ filter t (range_with_len 0 (heap_words image)))
  reached_is zero = (_, refl)
  reached_is (suc n) = (_, refl)

  -- of which test plays no part
  pub reachable_is : (t : ℕ → Bool) × (reachable image roots ≡ filter t (range_with_len 0 (heap_words image)))
  unfolding reachable
  reachable_is = reached_is (heap_words image)

  pub reachable-short : length (reachable image roots) ≤ heap_words image
  reachable-short = let is = reachable_is in omega (arith, filter_short is.0 (heap_words image), ap length is.1)
