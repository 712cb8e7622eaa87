-- What proofs of other crates use of the definitions of a plan. A lemma there is handed these laws by a function that calls
-- `plan_laws`.
use Rattle.std.specs.Prelude.{◌≡◌, ℕ, ◌+◌, ◌-◌, ◌%◌, ◌≤◌, ◌<◌, nat_lt, Bool, true, false, cond, ◌&&◌, List, Option, Some, None, map, option_map}
use Rattle.std.specs.List.{range_with_len, list_any}
use Rattle.object_heap.specs.declared.version.Version.{Version}
use Rattle.object_heap.specs.Layout.{Own}
use Rattle.object_heap.specs.HeapImage.{HeapImage, HasLiveList, IsValid, AreBlocks, versioned_image_of, heap_words, region_words, region_count, region_of, start_of, word_at, size_at, references_at, end_of, is_live_word, live_words}
use Rattle.summary.specs.LiveObjects.{object_count, object_at}
use Rattle.summary.specs.NewAddresses.{prefix_end, new_address, new_end_of, new_live, new_top}
use Rattle.summary.specs.WordMoves.{slid, origin, reads, is_to_fill}
use Rattle.summary.specs.Fillers.{filler_limit, gap_at}
use Rattle.summary.specs.Compaction.{is_reference_of, is_deferred, redirected, moved_word, compacted_word, compact, redirected_word}
use Rattle.summary.specs.RegionData.{data_words, destination, source, reader_count, fill_count, region_addresses}
use Rattle.summary.specs.Updates.{is_late_reference}

pub record PlanLaws : Type 0 where
  -- counts of live words
  pub live_words-add : (image : HeapImage) (a b c : ℕ) → a ≤ b → b ≤ c → live_words image a c ≡ live_words image a b + live_words image b c
  pub live_words-le : (image : HeapImage) (a b : ℕ) → live_words image a b ≤ b - a
  pub live_below : (image : HeapImage) → HasLiveList image → (q : ℕ) → is_live_word image q ≡ true → q < heap_words image
  -- live objects
  pub owner : (image : HeapImage) → HasLiveList image → (q : ℕ) → is_live_word image q ≡ true → (i : ℕ) × (i < object_count image) × (object_at image i ≤ q) × (q < end_of image (object_at image i))
  pub is_live : (image : HeapImage) → HasLiveList image → (i q : ℕ) → i < object_count image → object_at image i ≤ q → q < end_of image (object_at image i) → is_live_word image q ≡ true
  pub ends_before : (image : HeapImage) → HasLiveList image → (k i : ℕ) → k < object_count image → i < object_count image → object_at image k < object_at image i → end_of image (object_at image k) ≤ object_at image i
  pub new_address-slid : (image : HeapImage) → HasLiveList image → (i j : ℕ) → i < object_count image → j < size_at image (object_at image i) → new_address image (object_at image i) + j ≡ slid image (object_at image i + j)
  pub new-down : (image : HeapImage) → HasLiveList image → (i : ℕ) → i < object_count image → new_address image (object_at image i) ≤ object_at image i
  pub new-below : (image : HeapImage) → HasLiveList image → (i : ℕ) → i < object_count image → new_end_of image (object_at image i) ≤ new_top image
  -- the prefix end and the new top
  pub prefix_end-le : (image : HeapImage) → HasLiveList image → prefix_end image ≤ heap_words image
  pub prefix_region : (image : HeapImage) (r : ℕ) → start_of image r < prefix_end image → start_of image r + region_words image ≤ prefix_end image
  pub top-above : (image : HeapImage) → HasLiveList image → prefix_end image ≤ new_top image
  pub top-le : (image : HeapImage) → HasLiveList image → new_top image ≤ heap_words image
  pub new_top-live_words : (image : HeapImage) → HasLiveList image → new_top image ≡ prefix_end image + live_words image (prefix_end image) (heap_words image)
  -- where live words go
  pub slid-low : (image : HeapImage) (q : ℕ) → q < prefix_end image → slid image q ≡ q
  pub slid-high : (image : HeapImage) (q : ℕ) → prefix_end image ≤ q → slid image q ≡ prefix_end image + live_words image (prefix_end image) q
  pub slid-le : (image : HeapImage) (q : ℕ) → slid image q ≤ q
  pub slid-above : (image : HeapImage) (q : ℕ) → prefix_end image ≤ q → prefix_end image ≤ slid image q
  pub slid-below : (image : HeapImage) → HasLiveList image → (q : ℕ) → is_live_word image q ≡ true → slid image q < new_top image
  pub slid-increasing : (image : HeapImage) (q r : ℕ) → is_live_word image q ≡ true → q < r → slid image q < slid image r
  pub slid-run : (image : HeapImage) (q n : ℕ) → ((j : ℕ) → j < n → is_live_word image (q + j) ≡ true) → slid image (q + n) ≡ slid image q + n
  pub slid-skip : (image : HeapImage) (q r : ℕ) → prefix_end image ≤ q → q ≤ r → ((x : ℕ) → q ≤ x → x < r → is_live_word image x ≡ false) → slid image r ≡ slid image q
  pub slid-onto : (image : HeapImage) → HasLiveList image → (p : ℕ) → prefix_end image ≤ p → p < new_top image → (q : ℕ) × (prefix_end image ≤ q) × (is_live_word image q ≡ true) × (slid image q ≡ p)
  -- where words come from
  pub origin-slid : (image : HeapImage) → HasLiveList image → (q : ℕ) → q < heap_words image → is_live_word image q ≡ true → origin image (slid image q) ≡ Some q
  pub origin-Some : (image : HeapImage) → HasLiveList image → (p q : ℕ) → origin image p ≡ Some q → (is_live_word image q ≡ true) × (slid image q ≡ p)
  pub origin-live : (image : HeapImage) → HasLiveList image → (p : ℕ) → p < prefix_end image → is_live_word image p ≡ true → origin image p ≡ Some p
  pub origin-dead : (image : HeapImage) → HasLiveList image → (p : ℕ) → p < prefix_end image → is_live_word image p ≡ false → origin image p ≡ None
  pub origin-up : (image : HeapImage) → HasLiveList image → (p q : ℕ) → origin image p ≡ Some q → p ≤ q
  pub origin-below : (image : HeapImage) → HasLiveList image → (p q : ℕ) → origin image p ≡ Some q → p < new_top image
  pub origin-reads : (image : HeapImage) → HasLiveList image → (p q : ℕ) → origin image p ≡ Some q → reads image (region_of image p) (region_of image q) ≡ true
  pub origin-in_region : (image : HeapImage) → HasLiveList image → (s k : ℕ) → prefix_end image ≤ start_of image s → k < data_words image s
      → (q : ℕ) × (origin image (destination image s + k) ≡ Some q) × (region_of image q ≡ s) × (live_words image (start_of image s) q ≡ k)
  pub nowhere-in_prefix : (image : HeapImage) → HasLiveList image → (p : ℕ) → p < new_top image → origin image p ≡ None → p < prefix_end image
  -- which region reads which
  pub reads-word : (image : HeapImage) → HasLiveList image → (d s : ℕ) → reads image d s ≡ true → (q : ℕ) × (is_live_word image q ≡ true) × (region_of image (slid image q) ≡ d) × (region_of image q ≡ s)
  pub word_reads : (image : HeapImage) → HasLiveList image → (d s q : ℕ) → is_live_word image q ≡ true → region_of image (slid image q) ≡ d → region_of image q ≡ s → reads image d s ≡ true
  pub reads-below : (image : HeapImage) → HasLiveList image → (d s : ℕ) → reads image d s ≡ true → d ≤ s
  pub reads-filled : (image : HeapImage) → HasLiveList image → (d s : ℕ) → reads image d s ≡ true → is_to_fill image d ≡ true
  pub reads-prefix : (image : HeapImage) → HasLiveList image → (d s : ℕ) → start_of image d < prefix_end image → reads image d s ≡ true → d ≡ s
  pub reads-destination : (image : HeapImage) → HasLiveList image → (d t : ℕ) → reads image d t ≡ true → destination image t < start_of image d + region_words image
  pub reads-in_range : (image : HeapImage) → IsValid image → (d s : ℕ) → reads image d s ≡ true → (d < region_count image) × (s < region_count image)
  pub reader_count-le : (image : HeapImage) → IsValid image → (s : ℕ) → reader_count image s ≤ 2
  pub to_fill-count : (image : HeapImage) (d : ℕ) → is_to_fill image d ≡ nat_lt d (fill_count image)
  -- the data and the source of a region
  pub source-Some : (image : HeapImage) → HasLiveList image → (d : ℕ) → prefix_end image ≤ start_of image d → is_to_fill image d ≡ true
      → (s : ℕ) × (source image d ≡ Some s) × (reads image d s ≡ true) × ((t : ℕ) → reads image d t ≡ true → s ≤ t)
  pub data-le : (image : HeapImage) → HasLiveList image → (r : ℕ) → data_words image r ≤ region_words image
  pub region-into : (image : HeapImage) → HasLiveList image → (r q : ℕ) → prefix_end image ≤ start_of image r → is_live_word image q ≡ true → region_of image q ≡ r
      → (destination image r ≤ slid image q) × (slid image q < destination image r + data_words image r)
  pub destination-le : (image : HeapImage) → IsValid image → (s : ℕ) → s < region_count image → destination image s ≤ heap_words image
  pub destination-live_words : (image : HeapImage) → HasLiveList image → (r : ℕ) → prefix_end image ≤ start_of image r → start_of image r ≤ heap_words image
      → destination image r ≡ prefix_end image + live_words image (prefix_end image) (start_of image r)
  -- fillers
  pub gap_at-run : (image : HeapImage) (a b : ℕ) → a ≤ b → b ≤ filler_limit image a → ((q : ℕ) → a ≤ q → q < b → is_live_word image q ≡ false) → (b < filler_limit image a → is_live_word image b ≡ true) → gap_at image a ≡ b - a
  -- redirected words
  pub reference-owner : (image : HeapImage) → HasLiveList image → (test : ℕ → Bool) (i q : ℕ) → i < object_count image → object_at image i ≤ q → q < end_of image (object_at image i)
      → list_any (λ a. is_reference_of image a q && test a) image.live ≡ (is_reference_of image (object_at image i) q && test (object_at image i))
  pub moved-reference : (image : HeapImage) → HasLiveList image → (i f : ℕ) → i < object_count image → f < references_at image (object_at image i)
      → moved_word image (new_address image (object_at image i) + (1 + f)) ≡ cond (is_deferred image (object_at image i)) (word_at image (object_at image i + (1 + f))) (redirected_word image (word_at image (object_at image i + (1 + f))))
  pub moved-same : (image : HeapImage) → HasLiveList image → (p : ℕ) → p < new_top image → is_late_reference image p ≡ false → moved_word image p ≡ compacted_word image p
  pub moved-late : (image : HeapImage) → HasLiveList image → (p : ℕ) → is_late_reference image p ≡ true → compacted_word image p ≡ redirected_word image (moved_word image p)
  -- the compacted image and its blocks
  pub compact-IsValid : (image : HeapImage) → IsValid image → IsValid (compact image)
  pub parts-of_blocks : (image : HeapImage) → image.layout ≡ Own → (version : Version) (log allowance r : ℕ) (regions : List (List ℕ)) (live : List ℕ) (roots : Option (List ℕ)) → heap_words image % region_words image ≡ 0
      → version ≡ image.version → log ≡ image.region_log → allowance ≡ image.allowance → regions ≡ map (λ k. map (compacted_word image) (region_addresses image k)) (range_with_len 0 r) → r ≡ region_count image
      → live ≡ new_live image → roots ≡ option_map (map (redirected image)) image.roots → AreBlocks log regions × (versioned_image_of version log allowance regions live roots ≡ compact image)
