-- The conditions of fault 4, one by one.
use Rattle.std.specs.Prelude.{ℕ, ◌/◌, ◌%◌, ◌^◌, Bool, true, false, not, nat_lt, ◌==◌, List, [], ◌∷◌, Option, None, Some}
use Rattle.heap_image.specs.ImageText.{first_some, encoded_region_log, encoded_count, encoded_version, encoded_words}
use Rattle.object_heap.specs.Version.{max_regions, max_words}
use Rattle.heap_image.specs.declared.io.front.length_cause.LengthCause.{LengthCause}
use Rattle.object_heap.specs.declared.version.Version.{Version}
use Rattle.heap_image.specs.declared.io.front.length_cause.LengthCause.TheVariants.{NoWords, PartialRegion, TooManyWords, TooManyRegions, CountAboveWords}

abbrev pub cause_if : Bool → LengthCause → Option LengthCause
cause_if true cause = Some cause
cause_if false cause = None

-- each cause if its condition holds, in the order in which they are tested
abbrev pub length_causes : Version → (region_log count words : ℕ) → List (Option LengthCause)
length_causes version region_log count words =
    cause_if (words == 0) NoWords
    ∷ cause_if (not (words % 2 ^ region_log == 0)) PartialRegion
    ∷ cause_if (nat_lt (max_words version) words) (TooManyWords (max_words version))
    ∷ cause_if (nat_lt (max_regions version) (words / 2 ^ region_log)) (TooManyRegions (max_regions version))
    ∷ cause_if (nat_lt words count) CountAboveWords
    ∷ []

-- the first of these causes for the front of a byte list
abbrev pub first_length_cause : List ℕ → Option LengthCause
first_length_cause bytes = first_some (length_causes (encoded_version bytes) (encoded_region_log bytes) (encoded_count bytes) (encoded_words bytes))
