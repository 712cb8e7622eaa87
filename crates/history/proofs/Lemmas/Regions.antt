-- Regions of equal size, and lists of what each number in a range gives.
use Rattle.std.proofs.Common.{◌≡◌, ℕ, suc, ◌+◌, ◌*◌, ◌/◌, ◌≤◌, ◌<◌, List, length, get_or, refl, sym, ◌∙◌, arith}
use Rattle.std.proofs.lemmas.Nat.{pow_pos, div-add-mod'}
use Rattle.std.proofs.Math.Nat.{mul-le-mul_right}
use Rattle.std.proofs.lemmas.List.{ext_get_or}
use Rattle.std.proofs.lemmas.List.FromFn.{get_or-map-range_with_len, length-map-range_with_len}
use Rattle.std.specs.Prelude.{map}
use Rattle.std.specs.List.{range_with_len}
use Rattle.object_heap.specs.HeapImage.{HeapImage, IsValid, heap_words, region_count, region_words}

pub region_low : (R q : ℕ) → q / R * R ≤ q
region_low R q = let w = div-add-mod' q R in omega arith

pub region_some : (image : HeapImage) → 0 < region_words image
region_some image = pow_pos image.region_log

pub map-from : (f : ℕ → ℕ) (xs : List ℕ) (s n : ℕ) → length xs ≡ n → ((k : ℕ) → k < n → get_or xs k 0 ≡ f (s + k)) → xs ≡ map f (range_with_len s n)
map-from f xs s n long each =
    let all = length-map-range_with_len f s n in
    ext_get_or 0 xs (map f (range_with_len s n)) (long ∙ sym all) (λ k l. let inside : k < n = omega arith in each k inside ∙ sym (get_or-map-range_with_len f s n k (s + k) 0 inside refl))

-- the regions have all words of the heap
pub whole_heap : (image : HeapImage) → IsValid image → heap_words image ≡ region_count image * region_words image
whole_heap image valid = let w = div-add-mod' (heap_words image) (region_words image) in let whole = valid.limits.whole_regions in omega arith

-- the words below a region are some of those below the next
pub below_next : (image : HeapImage) (r r' : ℕ) → r ≡ suc r' → r' * region_words image ≤ r * region_words image
below_next image r r' next = mul-le-mul_right (region_words image) (omega (arith, next))
