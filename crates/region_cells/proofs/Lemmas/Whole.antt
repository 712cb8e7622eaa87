-- The regions of a valid image are its parts.
use Rattle.std.proofs.Common.{◌≡◌, ℕ, zero, suc, ◌+◌, ◌*◌, ◌<◌, ◌≤◌, [], ◌∷◌, ◌++◌, List, length, take, drop, sym, ap, ◌∙◌, arith, length-drop}
use Rattle.std.proofs.Math.Nat.{mul-le-mul_right}
use Rattle.std.proofs.Math.Seq.{take-add}
use Rattle.std.proofs.lemmas.List.{append-nil, length-take-le, take_all}
use Rattle.std.proofs.lemmas.List.Elements.{All-from_get_or}
use Rattle.std.proofs.lemmas.List.Folds.{concat-append}
use Rattle.std.proofs.lemmas.List.FromFn.{map-range_with_len_more, length-map-range_with_len, get_or-map-range_with_len}
use Rattle.std.proofs.lemmas.Nat.{div-add-mod'}
use Rattle.std.specs.Prelude.{map, Option}
use Rattle.std.specs.List.{concat, range_with_len}
use Rattle.object_heap.specs.HeapImage.{HeapImage, IsValid, AreBlocks, heap_words, region_count, region_words, start_of, block_of, versioned_image_of}
use Rattle.object_heap.specs.declared.version.Version.{Version}
use Rattle.region_cells.specs.Blocks.{blocks_of}

module _ (image : HeapImage) where
  -- the words of the first n regions
  joined : (n : ℕ) → concat (map (block_of image) (range_with_len 0 n)) ≡ take (n * region_words image) image.words
  joined zero = let none : 0 ≡ 0 * region_words image = omega arith in ap (λ n. take n image.words) none
  joined (suc n) =
      let size : ℕ = region_words image in
      let next : suc n ≡ n + 1 = omega arith in
      let long : n * size + size ≡ suc n * size = omega arith in
      ap (λ m. concat (map (block_of image) (range_with_len 0 m))) next
      ∙ ap concat (map-range_with_len_more (block_of image) 0 n n (omega arith))
      ∙ concat-append (map (block_of image) (range_with_len 0 n)) (block_of image n ∷ [])
      ∙ ap (λ xs. xs ++ concat (block_of image n ∷ [])) (joined n)
      ∙ ap (λ xs. take (n * size) image.words ++ xs) (append-nil (block_of image n))
      ∙ sym (take-add (n * size) size image.words)
      ∙ ap (λ m. take m image.words) long

  module _ (valid : IsValid image) where
    -- the words of all of them
    pub words_joined : concat (blocks_of image) ≡ image.words
    words_joined =
        let size : ℕ = region_words image in
        let whole = div-add-mod' (heap_words image) size in
        let none = valid.limits.whole_regions in
        joined (region_count image) ∙ take_all (region_count image * size) image.words (omega arith)

    long : (r : ℕ) → r < region_count image → length (block_of image r) ≡ region_words image
    long r below =
        let size : ℕ = region_words image in
        let whole = div-add-mod' (heap_words image) size in
        let none = valid.limits.whole_regions in
        let next : r + 1 ≤ region_count image = omega arith in
        let up : (r + 1) * size ≤ region_count image * size = mul-le-mul_right size next in
        let same : (r + 1) * size ≡ r * size + size = omega arith in
        let left = length-drop (start_of image r) image.words in
        length-take-le size (drop (start_of image r) image.words) (omega arith)

    pub are_blocks : AreBlocks image.region_log (blocks_of image)
    are_blocks =
        All-from_get_or (λ block. length block ≡ region_words image) (blocks_of image) [] (λ i inside.
        let below : i < region_count image = omega (arith, inside, length-map-range_with_len (block_of image) 0 (region_count image)) in
        ap length (get_or-map-range_with_len (block_of image) 0 (region_count image) i i [] below (omega arith)) ∙ long i below)

same_image : (x y : HeapImage) → x.layout ≡ y.layout → x.version ≡ y.version → x.region_log ≡ y.region_log → x.allowance ≡ y.allowance → x.words ≡ y.words
    → x.live ≡ y.live → x.roots ≡ y.roots → x ≡ y
same_image x y l v a b c d e = λ i. record { version = v i; layout = l i; region_log = a i; allowance = b i; words = c i; live = d i; roots = e i }

-- an image is that of its parts
pub whole_again : (image : HeapImage) → IsValid image → (version : Version) (log allowance : ℕ) (blocks : List (List ℕ)) (live : List ℕ) (roots : Option (List ℕ))
    → version ≡ image.version → log ≡ image.region_log → allowance ≡ image.allowance → blocks ≡ blocks_of image → live ≡ image.live → roots ≡ image.roots
    → versioned_image_of version log allowance blocks live roots ≡ image
whole_again image valid version log allowance blocks live roots v l a b e r =
    same_image (versioned_image_of version log allowance blocks live roots) image (sym valid.own) v l a (ap concat b ∙ words_joined image valid) e r
