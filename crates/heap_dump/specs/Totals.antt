-- Sums over the objects of an imported image.
use Rattle.std.specs.Prelude.{◌≡◌, ℕ, ◌+◌, ◌-◌, ◌<◌, Bool, not, ◌&&◌, ◌==◌, nat_le, if◌then◌else◌, min, List, All, map, filter, fold, take, length, count_by, sum, sum_by, slice_index, slice_index_or, IsPermutation, IsSortedByKey}
use Rattle.std.specs.List.{range_with_len}
use Rattle.std.specs.List.Sorted.{IsStableByKey}
use Rattle.std.specs.Ordering.{nat_cmp}
use Rattle.heap_dump.specs.ClassNames.{most_padding}
use Rattle.heap_dump.specs.Listing.{end_of_listed}
use Rattle.heap_dump.specs.declared.listing.class_names.ClassNames.{ClassNames}
use Rattle.heap_dump.specs.declared.dead_words.DeadWords.{DeadWords}
use Rattle.heap_dump.specs.declared.listing.ListedObject.{ListedObject}
use Rattle.heap_dump.specs.declared.totals.ClassTotals.{ClassTotals}
use Rattle.heap_dump.specs.declared.totals.Totals.{Totals}

-- a sum as a u64 has it: a larger one is the largest
abbrev pub held : ℕ → ℕ
held sum = min sum 18446744073709551615

abbrev pub live_words_of : ListedObject → ℕ
live_words_of object = if object.is_live then object.words else 0

abbrev pub dead_words_of : ListedObject → ℕ
dead_words_of object = if object.is_live then 0 else object.words

-- how many live and dead objects there are, their words, and the words of all of them in the machine
abbrev pub sums_of : List ListedObject → Totals
sums_of objects = record {
  live_objects = held (count_by (λ o. o.is_live) objects);
  live_words = held (sum_by live_words_of objects);
  dead_objects = held (count_by (λ o. not o.is_live) objects);
  dead_words = held (sum_by dead_words_of objects);
  machine_words = held (sum_by (λ o. o.machine_words) objects);
}

-- the objects of a class
abbrev pub objects_in : ℕ → List ListedObject → List ListedObject
objects_in class objects = filter (λ o. o.class == class) objects

-- the sums of a class
abbrev pub sums_in : ℕ → List ListedObject → ClassTotals
sums_in class objects = record { class = class; totals = sums_of (objects_in class objects) }

-- the sums of each class from number 0 on, up to the last one that has an object
pub record AreClassTotals (objects : List ListedObject) (totals : List ClassTotals) : Type 0 where
  pub all : All (λ o. o.class < length totals) objects
  pub each : (k : ℕ) (d : ClassTotals) → k < length totals → slice_index_or totals k d ≡ sums_in k objects

-- the words of all objects
abbrev pub words_in : Totals → ℕ
words_in totals = held (totals.live_words + totals.dead_words)

abbrev pub are_none : Totals → Bool
are_none totals = (totals.live_objects == 0) && (totals.dead_objects == 0)

-- the more words, the lower
abbrev pub rank_of : ClassTotals → ℕ
rank_of class = 18446744073709551615 - words_in class.totals

-- The sums of the classes that have objects, by descending words. Classes with as many words stay in the order of numbers.
pub record IsRanking (objects : List ListedObject) (ranked : List ClassTotals) : Type 0 where
  pub totals : List ClassTotals
  pub counted : AreClassTotals objects totals
  pub permuted : IsPermutation (filter (λ class. not (are_none class.totals)) totals) ranked
  pub descends : IsSortedByKey rank_of nat_cmp ranked
  pub ties : IsStableByKey rank_of nat_cmp (filter (λ class. not (are_none class.totals)) totals) ranked

-- the address after the last of these objects, or 0 if there is none
abbrev pub last_end : List ListedObject → ℕ
last_end objects = fold (λ _ o. held (end_of_listed o)) 0 objects

module _ (names : ClassNames) where
  -- how many words of padding the last of these objects may have
  abbrev pub last_padding : List ListedObject → ℕ
  last_padding objects = fold (λ _ o. most_padding names o.class) 0 objects

module _ (names : ClassNames) (objects : List ListedObject) where
  -- the words between the k-th object and the one before it
  abbrev pub gap_before : ℕ → ℕ
  gap_before k = slice_index (map (λ o. o.address) objects) k - last_end (take k objects)

  -- they may all be padding of the object before
  abbrev pub is_padding : ℕ → Bool
  is_padding k = nat_le (gap_before k) (last_padding names (take k objects))

  abbrev pub padding_before : ℕ → ℕ
  padding_before k = if is_padding k then gap_before k else 0

  abbrev pub wide_gap_before : ℕ → ℕ
  wide_gap_before k = if is_padding k then 0 else gap_before k

-- The words that belong to no live object: those of dead objects, gaps that may be padding, other gaps, and the words after the
-- last object, up to the end of the image.
pub record AreDeadWords (names : ClassNames) (objects : List ListedObject) (words : ℕ) (dead : DeadWords) : Type 0 where
  pub objects_part : dead.objects ≡ held (sum_by dead_words_of objects)
  pub padding : dead.padding ≡ held (sum (map (padding_before names objects) (range_with_len 0 (length objects))))
  pub gaps : dead.gaps ≡ held (sum (map (wide_gap_before names objects) (range_with_len 0 (length objects))))
  pub end : dead.end ≡ words - last_end objects
