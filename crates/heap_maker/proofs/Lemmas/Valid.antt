-- A heap whose live objects were found from roots, as an image of any version.
use Rattle.std.proofs.Common.{◌≡◌, ◌<◌, ◌≤◌, ◌^◌, List, ℕ, Some, false, refl, sym, subst, All, length}
use Rattle.std.proofs.lemmas.Bool.{true≢false}
use Rattle.std.specs.List.{concat}
use Rattle.object_heap.specs.HeapImage.{IsValid, IsWithinLimits, image_of, versioned_image_of}
use Rattle.object_heap.specs.Version.{Allows, has_roots}
use Rattle.object_heap.specs.declared.version.Version.{Version}
use Rattle.object_heap.specs.declared.version.Version.TheVariants.{One, Two, Three}
use Rattle.heap_image.specs.Reading.{HasFittingNumbers}

-- sizes that may be may be with any number of live objects up to that of the words
pub with_live_count : (log words count : ℕ) → IsWithinLimits log words 0 → count ≤ words → IsWithinLimits log words count
with_live_count log words count limits few = record {
  region_log_low = limits.region_log_low;
  region_log_high = limits.region_log_high;
  not_empty = limits.not_empty;
  whole_regions = limits.whole_regions;
  few_words = limits.few_words;
  few_regions = limits.few_regions;
  few_live = few;
}

-- the only version without roots is version 1
pub listed_is_one : (version : Version) → has_roots version ≡ false → version ≡ One
listed_is_one One listed = refl
listed_is_one Two listed = absurd (true≢false listed)
listed_is_one Three listed = absurd (true≢false listed)

-- what version 1 allows, version 2 does
two_allows : (log words : ℕ) → Allows One log words → Allows Two log words
two_allows log words allowed = record { region_log_high = allowed.region_log_high; few_words = allowed.few_words; few_regions = allowed.few_regions }

pub listed_allows : (version : Version) (log words : ℕ) → has_roots version ≡ false → Allows version log words → Allows Two log words
listed_allows version log words listed allowed = two_allows log words (subst (λ v. Allows v log words) (listed_is_one version listed) allowed)

-- the numbers of a heap of such sizes fit
pub fitting : (version : Version) (log allowance words : ℕ) (blocks : List (List ℕ)) (roots : List ℕ) → IsWithinLimits log words 0 → Allows version log words
    → length (concat blocks) ≡ words → All (λ w. w < 2 ^ 64) (concat blocks) → length roots ≤ words → length roots < 2 ^ 32 → All (λ w. w < 2 ^ 64) roots
    → allowance < 2 ^ 64 → HasFittingNumbers version (image_of log allowance blocks roots)
fitting version log allowance words blocks roots limits allowed count fit few counted inside fits = record {
  own = refl;
  limits = subst (λ n. IsWithinLimits log n (length roots)) (sym count) (with_live_count log words (length roots) limits few);
  allowed = subst (λ n. Allows version log n) (sym count) allowed;
  counted = counted;
  allowance = fits;
  words = fit;
  live = inside;
  plain = refl;
  listed = refl;
}

module _ (log allowance : ℕ) (blocks : List (List ℕ)) (live roots : List ℕ) where
  -- an image with roots is valid without them too, as one that lists its live objects
  pub listed-valid : IsValid (versioned_image_of Two log allowance blocks live (Some roots)) → IsValid (image_of log allowance blocks live)
  listed-valid valid =
      let list = valid.live_list in
      record {
        own = valid.own;
        lawful = valid.lawful;
        limits = valid.limits;
        allowed = record { region_log_high = valid.allowed.region_log_high; few_words = valid.allowed.few_words; few_regions = valid.allowed.few_regions };
        allowance_fits = valid.allowance_fits;
        words_fit = valid.words_fit;
        live_list = record {
          sound = λ k d l. let sound = list.sound k d l in record {
            object = sound.object;
            header = sound.header;
            references = sound.references;
            inside = sound.inside;
          };
          apart = list.apart;
          references = list.references;
        };
        rooted = tt;
        versioned = refl;
      }
