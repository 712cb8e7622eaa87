-- Readers by destination and the update of deferred objects, in small heaps.
use Rattle.std.proofs.Common.{◌≡◌, refl, [], ◌∷◌}
use Rattle.std.specs.Prelude.{map, filter}
use Rattle.std.specs.List.{range_with_len}
use Rattle.summary.specs.Compaction.{compact}
use Rattle.summary.specs.RegionData.{data_words, first_target, last_target, readers_by_destination}
use Rattle.summary.specs.Updates.{is_late_reference, updated_word}
use Rattle.summary.proofs.Lemmas.Rows.{base}

readers_0 : map (readers_by_destination (base 0)) (range_with_len 0 4) ≡ 0 ∷ 1 ∷ 1 ∷ 2 ∷ []
readers_0 = refl

readers_2 : map (readers_by_destination (base 2)) (range_with_len 0 4) ≡ 0 ∷ 0 ∷ 1 ∷ 2 ∷ []
readers_2 = refl

data_0 : map (data_words (base 0)) (range_with_len 0 4) ≡ 6 ∷ 3 ∷ 4 ∷ 6 ∷ []
data_0 = refl

first_0 : map (first_target (base 0)) (range_with_len 0 4) ≡ 0 ∷ 0 ∷ 1 ∷ 1 ∷ []
first_0 = refl

last_0 : map (last_target (base 0)) (range_with_len 0 4) ≡ 0 ∷ 1 ∷ 1 ∷ 2 ∷ []
last_0 = refl

late_0 : filter (is_late_reference (base 0)) (range_with_len 0 32) ≡ 8 ∷ 10 ∷ 11 ∷ 12 ∷ 13 ∷ 14 ∷ 15 ∷ 16 ∷ 17 ∷ []
late_0 = refl

updated_0 : map (updated_word (base 0)) (range_with_len 0 32) ≡ (compact (base 0)).words
updated_0 = refl
