-- The faults of a front by its fields.
use Rattle.std.proofs.Common.{◌≡◌, ℕ, ◌%◌, ◌/◌, ◌^◌, ◌<◌, Bool, true, false, not, ◌||◌, ltb, eqb, List, [], ◌∷◌, length, take, refl, ◌∙◌, ap, arith, Option, Some}
use Rattle.std.proofs.lemmas.Bool.{le-ltb}
use Rattle.std.proofs.lemmas.Nat.{from_le_bytes-to_le_bytes_4, from_le_bytes-to_le_bytes_8}
use Rattle.std.specs.Prelude.{option_map}
use Rattle.std.specs.Str.{bytes_eq}
use Rattle.image_streams.specs.declared.fault.Fault.{Fault}
use Rattle.image_streams.specs.declared.fault.Fault.TheVariants.{TruncatedHeader, Magic, RegionLog, Length}
use Rattle.object_heap.specs.Version.{magic, max_region_log, max_regions, max_words}
use Rattle.object_heap.specs.declared.version.Version.{Version}
use Rattle.heap_image.specs.ImageText.{front, front_faults, fault_if, first_some, encoded_version, encoded_region_log, encoded_count, encoded_words}
use Rattle.heap_image.specs.LengthCause.{cause_if, length_causes}
use Rattle.heap_image.specs.declared.io.front.length_cause.LengthCause.{LengthCause}
use Rattle.heap_image.specs.declared.io.front.length_cause.LengthCause.TheVariants.{NoWords, PartialRegion, TooManyWords, TooManyRegions, CountAboveWords}
use Rattle.heap_image.proofs.Lemmas.Versions.{magic_names, known_magic}

abbrev fault_list : Bool → Bool → Version → ℕ → ℕ → ℕ → List (Option Fault)
fault_list short other version log count words =
    fault_if short TruncatedHeader
    ∷ fault_if other Magic
    ∷ fault_if (ltb log 3 || ltb (max_region_log version) log) RegionLog
    ∷ fault_if (eqb words 0 || not (eqb (words % 2 ^ log) 0) || ltb (max_words version) words || ltb (max_regions version) (words / 2 ^ log) || ltb words count) Length
    ∷ []

-- fault 4 comes where one of its causes does
lengths_are : (a b c d e : Bool) (most_words most_regions : ℕ) → first_some (fault_if (a || b || c || d || e) Length ∷ [])
    ≡ option_map (λ (_ : LengthCause). Length) (first_some (cause_if a NoWords ∷ cause_if b PartialRegion ∷ cause_if c (TooManyWords most_words) ∷ cause_if d (TooManyRegions most_regions) ∷ cause_if e CountAboveWords ∷ []))
lengths_are true b c d e m n = refl
lengths_are false true c d e m n = refl
lengths_are false false true d e m n = refl
lengths_are false false false true e m n = refl
lengths_are false false false false true m n = refl
lengths_are false false false false false m n = refl

module _ (version : Version) (log count words allowance : ℕ) (log_fits : log < 2 ^ 32) (count_fits : count < 2 ^ 32) (words_fit : words < 2 ^ 64) where
  abbrev bytes : List ℕ
  bytes = front version log count words allowance

  by_fields : front_faults bytes ≡ fault_list false false version log count words
  by_fields =
      let long : length bytes ≡ 32 = refl in
      ap (λ s. fault_list s (not (bytes_eq (take 8 bytes) (magic (encoded_version bytes)))) (encoded_version bytes) (encoded_region_log bytes) (encoded_count bytes) (encoded_words bytes)) (le-ltb (length bytes) 32 (omega arith))
      ∙ ap (λ m. fault_list false m (encoded_version bytes) (encoded_region_log bytes) (encoded_count bytes) (encoded_words bytes)) (known_magic version)
      ∙ ap (λ v. fault_list false false v (encoded_region_log bytes) (encoded_count bytes) (encoded_words bytes)) (magic_names version)
      ∙ ap (λ n. fault_list false false version n (encoded_count bytes) (encoded_words bytes)) (from_le_bytes-to_le_bytes_4 log log_fits)
      ∙ ap (λ n. fault_list false false version log n (encoded_words bytes)) (from_le_bytes-to_le_bytes_4 count count_fits)
      ∙ ap (λ n. fault_list false false version log count n) (from_le_bytes-to_le_bytes_8 words words_fit)

  pub region_log_fault : (ltb log 3 || ltb (max_region_log version) log) ≡ true → first_some (front_faults bytes) ≡ Some RegionLog
  region_log_fault forbidden =
      ap first_some by_fields
      ∙ ap (λ b. first_some (fault_if b RegionLog ∷ fault_if (eqb words 0 || not (eqb (words % 2 ^ log) 0) || ltb (max_words version) words || ltb (max_regions version) (words / 2 ^ log) || ltb words count) Length ∷ [])) forbidden

  pub length_fault : (ltb log 3 || ltb (max_region_log version) log) ≡ false → (cause : LengthCause) → first_some (length_causes version log count words) ≡ Some cause → first_some (front_faults bytes) ≡ Some Length
  length_fault allowed cause is =
      ap first_some by_fields
      ∙ ap (λ b. first_some (fault_if b RegionLog ∷ fault_if (eqb words 0 || not (eqb (words % 2 ^ log) 0) || ltb (max_words version) words || ltb (max_regions version) (words / 2 ^ log) || ltb words count) Length ∷ [])) allowed
      ∙ lengths_are (eqb words 0) (not (eqb (words % 2 ^ log) 0)) (ltb (max_words version) words) (ltb (max_regions version) (words / 2 ^ log)) (ltb words count) (max_words version) (max_regions version)
      ∙ ap (option_map (λ (_ : LengthCause). Length)) is
