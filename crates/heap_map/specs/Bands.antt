-- Where the live words of a heap go, object by object or region by region.
use Rattle.std.specs.Prelude.{◌≡◌, ℕ, ◌+◌, ◌-◌, ◌*◌, max, min, nat_le, ◌==◌, if◌then◌else◌, List, [], ◌∷◌, ◌++◌, codes, decimal, flat_map, length, map, Option, None, Some}
use Rattle.std.specs.List.{range_with_len}
use Rattle.std.specs.Int.{div_ceil}
use Rattle.object_heap.specs.HeapImage.{HeapImage, end_of, heap_words, live_words, region_words, size_at}
use Rattle.summary.specs.NewAddresses.{new_address, prefix_end}
use Rattle.summary.specs.WordMoves.{slid}
use Rattle.heap_map.specs.declared.band.Band.{Band}

module _ (image : HeapImage) where
  -- the words of the live object at an address
  abbrev pub object_band : ℕ → Band
  object_band a = record { from = a; to = end_of image a; words = size_at image a; target = new_address image a; stays = new_address image a == a }

  -- the live words from one address up to another; those of the dense prefix stay
  abbrev pub band_between : ℕ → ℕ → Band
  band_between from to = record { from = from; to = to; words = live_words image from to; target = slid image from; stays = nat_le to (prefix_end image) }

  -- the words above the dense prefix
  abbrev pub words_above : ℕ
  words_above = heap_words image - prefix_end image

  -- the words of as many whole regions as make at most this number of bands above the dense prefix
  abbrev pub band_words : ℕ → ℕ
  band_words most = max (div_ceil (div_ceil words_above (region_words image)) most) 1 * region_words image

  -- the live words of the i-th such regions
  abbrev pub regions_band : ℕ → ℕ → Band
  regions_band each i = band_between (prefix_end image + min (i * each) words_above) (prefix_end image + min ((i + 1) * each) words_above)

  -- the band of the dense prefix, if there is one
  abbrev pub prefix_bands : List Band
  prefix_bands = if prefix_end image == 0 then [] else band_between 0 (prefix_end image) ∷ []

  -- the bands of the regions: one of the dense prefix, and at most so many above it
  abbrev pub region_bands : ℕ → List Band
  region_bands most = prefix_bands ++ map (regions_band (band_words most)) (range_with_len 0 (div_ceil words_above (band_words most)))

  -- a band for each live object, if there are at most so many, or for regions
  abbrev pub bands_of : ℕ → List Band
  bands_of most = if nat_le (length image.live) most then map object_band image.live else region_bands most

-- what a line says of the words of a band
abbrev pub place_text : Band → List ℕ
place_text band = if band.words == 0 then codes "none live\n"
    else decimal band.words ++ (if band.stays then codes " stay\n" else codes " go to " ++ (decimal band.target ++ codes "\n"))

-- the line of a band: its first and its last address, how many words live, and where they go
abbrev pub band_text : Band → List ℕ
band_text band = decimal band.from ++ (codes " to " ++ (decimal (band.to - 1) ++ (codes ": " ++ place_text band)))

-- the lines of the bands
abbrev pub moves_text : Option (List Band) → List ℕ
moves_text None = []
moves_text (Some bands) = codes "moves:\n" ++ flat_map band_text bands
