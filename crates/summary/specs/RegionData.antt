-- The data of each region.
use Rattle.std.specs.Prelude.{ℕ, ◌+◌, ◌-◌, Bool, not, ◌&&◌, nat_lt, nat_le, ◌==◌, if◌then◌else◌, List, Option, None, option_map, find, count_by}
use Rattle.std.specs.List.{list_any, range_with_len}
use Rattle.std.specs.Int.{div_ceil}
use Rattle.object_heap.specs.HeapImage.{HeapImage, region_words, region_count, region_of, start_of, is_word_of}
use Rattle.summary.specs.NewAddresses.{prefix_end, new_address, new_top}
use Rattle.summary.specs.WordMoves.{word_moves, origin, reads, is_to_fill}
use Rattle.summary.specs.Compaction.{is_deferred}
use Rattle.summary.specs.declared.region_data.RegionData.{RegionData}

module _ (image : HeapImage) where
  -- the addresses of a region
  abbrev pub region_addresses : ℕ → List ℕ
  region_addresses r = range_with_len (start_of image r) (region_words image)

  -- q is a word of an object that begins before region r
  abbrev pub is_begun_left : ℕ → ℕ → Bool
  is_begun_left r q = list_any (λ a. nat_lt a (start_of image r) && is_word_of image a q) image.live

  -- the words at the front of a region that belong to a live object of an earlier region
  abbrev pub partial_words : ℕ → ℕ
  partial_words r = count_by (is_begun_left r) (region_addresses r)

  -- the words of the live objects that begin in a region, up to its end
  abbrev pub own_words : ℕ → ℕ
  own_words r = count_by (λ q. list_any (λ a. nat_le (start_of image r) a && is_word_of image a q) image.live) (region_addresses r)

  -- the live words of a region
  abbrev pub data_words : ℕ → ℕ
  data_words r = partial_words r + own_words r

  -- In the dense prefix a region's own start. The live words of any other region go after the prefix, in order.
  abbrev pub destination : ℕ → ℕ
  destination r = if nat_lt (start_of image r) (prefix_end image) then start_of image r
      else prefix_end image + count_by (λ m. nat_le (prefix_end image) m.0 && nat_lt m.0 (start_of image r)) (word_moves image)

  -- the number of other regions that receive words of region s
  abbrev pub reader_count : ℕ → ℕ
  reader_count s = count_by (λ d. not (d == s) && reads image d s) (range_with_len 0 (region_count image))

  -- the region whose word goes to the start of region d, if d is to be filled and lies after the prefix
  abbrev pub source : ℕ → Option ℕ
  source d = if nat_le (prefix_end image) (start_of image d) && is_to_fill image d
      then option_map (region_of image) (origin image (start_of image d)) else None

  abbrev pub region_data : ℕ → RegionData
  region_data r = record {
    partial = partial_words r;
    live = own_words r;
    destination = destination r;
    count = reader_count r;
    source = source r;
  }

  -- the new address of the deferred object whose new words begin in region d
  abbrev pub deferred : ℕ → Option ℕ
  deferred d = option_map (new_address image) (find (λ a. is_deferred image a && (region_of image (new_address image a) == d)) image.live)

  -- the number of regions to fill: those from 0 on that begin below the new top
  abbrev pub fill_count : ℕ
  fill_count = div_ceil (new_top image) (region_words image)

  -- the regions to which the first and the last live word of a region with data go
  abbrev pub first_target : ℕ → ℕ
  first_target r = region_of image (destination r)

  abbrev pub last_target : ℕ → ℕ
  last_target r = region_of image (destination r + data_words r - 1)

  -- The number of other regions that receive the words of region s, which go to this destination and after: the first
  -- receiver, if it is not the last, and the last, if it is not s itself.
  abbrev pub readers_from : ℕ → ℕ → ℕ → ℕ
  readers_from s to words = if words == 0 then 0
      else (if s == region_of image (to + words - 1) then 0 else 1) + (if region_of image to == region_of image (to + words - 1) then 0 else 1)

  -- the number of other regions that read a region, by its destination; a region of the dense prefix has none
  abbrev pub readers_by_destination : ℕ → ℕ
  readers_by_destination s = if nat_lt (start_of image s) (prefix_end image) then 0 else readers_from s (destination s) (data_words s)
