-- The text of an image, as it is written piece by piece.
use Rattle.std.proofs.Common.{◌≡◌, ℕ, zero, suc, ◌+◌, ◌*◌, ◌/◌, List, [], ◌∷◌, ◌++◌, length, take, drop, refl, sym, ◌∙◌, ap, arith, append_assoc}
use Rattle.std.proofs.lemmas.List.{take-append-drop, take_all}
use Rattle.std.proofs.lemmas.List.Concat.{flat_map-append}
use Rattle.std.specs.Int.{w64, to_le_bytes}
use Rattle.image_streams.specs.Numbers.{numbers}
use Rattle.heap_image.specs.ImageText.{front, text, with_tail}
use Rattle.object_heap.specs.HeapImage.{HeapImage, IsValid, heap_words, region_words, region_count, block_of}
use Rattle.object_heap.specs.declared.version.Version.{Version}
use Rattle.std.proofs.Math.Nat.{div-add-mod'}

-- the first a of xs, and n more
take_more : (xs : List ℕ) (a n : ℕ) → take (a + n) xs ≡ take a xs ++ take n (drop a xs)
take_more xs zero n = let e : 0 + n ≡ n = omega arith in rw e refl
take_more [] (suc a) n = let e : suc a + n ≡ suc (a + n) = omega arith in rw e (sym (take_all n [] (omega arith)))
take_more (x ∷ xs) (suc a) n = let e : suc a + n ≡ suc (a + n) = omega arith in rw e (ap (λ l. x ∷ l) (take_more xs a n))

-- the bytes of numbers, those so far and the others
numbers_split : (words : List ℕ) (done : ℕ) → numbers words ≡ numbers (take done words) ++ numbers (drop done words)
numbers_split words done = ap numbers (sym (take-append-drop done words)) ∙ flat_map-append (to_le_bytes w64) (take done words) (drop done words)

numbers_more : (words : List ℕ) (done n : ℕ) → numbers (take (done + n) words) ≡ numbers (take done words) ++ numbers (take n (drop done words))
numbers_more words done n = ap numbers (take_more words done n) ∙ flat_map-append (to_le_bytes w64) (take done words) (take n (drop done words))

module _ (image : HeapImage) where
  -- the numbers after the words
  abbrev pub tail : List ℕ
  tail = (with_tail image).live

  abbrev pub first : List ℕ
  first = front image.version image.region_log (length tail) (heap_words image) image.allowance

  -- the front with the first words, and the others with the live list
  pub text_split : (k : ℕ) → (first ++ numbers (take k image.words)) ++ (numbers (drop k image.words) ++ numbers tail) ≡ text image
  text_split k =
      append_assoc first (numbers (take k image.words)) (numbers (drop k image.words) ++ numbers tail)
      ∙ ap (λ l. first ++ l) (sym (append_assoc (numbers (take k image.words)) (numbers (drop k image.words)) (numbers tail)) ∙ ap (λ l. l ++ numbers tail) (sym (numbers_split image.words k)))
      ∙ sym (append_assoc first (numbers image.words) (numbers tail))

  -- the words from a region on are its block and what is after it
  pub block_first : (r : ℕ) → numbers (drop (r * region_words image) image.words) ≡ numbers (block_of image r) ++ numbers (drop (region_words image) (drop (r * region_words image) image.words))
  block_first r = numbers_split (drop (r * region_words image) image.words) (region_words image)

  pub block_more : (r : ℕ) → numbers (take ((r + 1) * region_words image) image.words) ≡ numbers (take (r * region_words image) image.words) ++ numbers (block_of image r)
  block_more r =
      let e : (r + 1) * region_words image ≡ r * region_words image + region_words image = omega arith in
      ap (λ n. numbers (take n image.words)) e ∙ numbers_more image.words (r * region_words image) (region_words image)

  -- all the blocks are all the words
  pub all_blocks : IsValid image → (r : ℕ) → r ≡ region_count image → take (r * region_words image) image.words ≡ image.words
  all_blocks valid r e =
      let split = div-add-mod' (heap_words image) (region_words image) in
      let none = valid.limits.whole_regions in
      let rows : r * region_words image ≡ heap_words image / region_words image * region_words image = ap (λ n. n * region_words image) e in
      take_all (r * region_words image) image.words (omega arith)

-- the front of an image, by the numbers that its calls answer
pub front_is : (image : HeapImage) (version : Version) (log : ℕ) (behind : List ℕ) (words allowance : ℕ) (bytes : List ℕ) → version ≡ image.version → log ≡ image.region_log → behind ≡ (with_tail image).live → words ≡ heap_words image → allowance ≡ image.allowance
    → bytes ≡ front version log (length behind) words allowance → bytes ≡ first image
front_is image version log behind words allowance bytes v a b c d e =
    e ∙ ap (λ r. front r log (length behind) words allowance) v ∙ ap (λ n. front image.version n (length behind) words allowance) a ∙ ap (λ xs. front image.version image.region_log (length xs) words allowance) b ∙ ap (λ n. front image.version image.region_log (length (with_tail image).live) n allowance) c ∙ ap (λ n. front image.version image.region_log (length (with_tail image).live) (heap_words image) n) d
