use Rattle.std.proofs.Common.{◌≡◌, ◌+◌, ◌*◌, ℕ, List, length, refl, sym, ◌∙◌, ap, arith}
use Rattle.std.specs.List.{range_with_len}
use Rattle.std.proofs.lemmas.Bool.{false_from_ne_true}
use Rattle.std.proofs.Math.Nat.{zero-add}
use Rattle.std.proofs.lemmas.List.FromFn.{length-map-range_with_len}
use Rattle.std.specs.Prelude.{map}
use Rattle.object_heap.specs.HeapImage.{HeapImage, HasLiveList, heap_words, region_count, region_words, start_of}
use Rattle.summary.specs.NewAddresses.{new_top}
use Rattle.summary.specs.Compaction.{moved_word}
use Rattle.summary.specs.RegionData.{region_addresses}
use Rattle.summary.specs.Updates.{is_late_reference}
use Rattle.fill.specs.MovedHeap.{moved_regions, moved_regions_from, redirected_where, is_late_before, IsMovedPart}
use Rattle.fill.proofs.Lemmas.Cleared.{cleared-map}
use Rattle.fill.proofs.Lemmas.Late.{late-parts}
use Rattle.fill.proofs.Lemmas.WrittenTo.{all_regions}
use Rattle.fill.proofs.cleanup.deferred.whole_heap.Goals as goal
use Rattle.fill.proofs.cleanup.deferred.whole_heap.Goals.{After-update_then_clear}

moved_part : (c : After-update_then_clear) → (blocks : List (List ℕ)) → blocks ≡ moved_regions c.args.plan.now → IsMovedPart c.args.plan.now 0 blocks
moved_part c blocks is =
    let image : HeapImage = c.args.plan.now in
    let valid = c.planned_image_is_valid.ensures in
    let sound : HasLiveList image = valid.live_list in
    let long : length blocks ≡ region_count image = ap (length {A = List ℕ}) is ∙ length-map-range_with_len (λ r. map (moved_word image) (region_addresses image r)) 0 (region_count image) in
    record {
      inside = omega (arith, long);
      moved = is ∙ ap (λ n. moved_regions_from image 0 n) (sym long);
      begins = λ p l. refl;
      ends = λ p l. ap (λ n. is_late_before image n p) (zero-add (length blocks)) ∙ false_from_ne_true (is_late_before image (length blocks) p) (λ h.
          let at = late-parts image (length blocks) p h in
          let below = c.update_then_clear.ensures.below image sound p (c.update_then_clear.ensures.are_late image sound p at.0 at.1 at.3 at.4 at.5) in
          let top = c.regions_to_fill.ensures.top image sound in
          let all : start_of image (0 + length blocks) ≡ heap_words image = ap (start_of image) (zero-add (length blocks) ∙ long) ∙ all_regions image valid in
          omega arith);
    }

pub returns-clause-moved : goal.returns-clause-moved
returns-clause-moved c = moved_part c

pub returns-clause-updated : goal.returns-clause-updated
returns-clause-updated c = λ blocks done is part.
    let image : HeapImage = c.args.plan.now in
    let g : ℕ → ℕ = redirected_where image (is_late_reference image) in
    let long : length blocks ≡ region_count image = ap (length {A = List ℕ}) is ∙ length-map-range_with_len (λ r. map (moved_word image) (region_addresses image r)) 0 (region_count image) in
    let start : start_of image 0 ≡ 0 = omega arith in
    let all : length blocks * region_words image ≡ heap_words image = ap (λ n. n * region_words image) long ∙ all_regions image c.planned_image_is_valid.ensures in
    part.words ∙ ap (λ a. map g (range_with_len a (length blocks * region_words image))) start ∙ ap (λ n. map g (range_with_len 0 n)) all

pub returns-clause-compacted : goal.returns-clause-compacted
returns-clause-compacted c =
    let image : HeapImage = c.args.plan.now in
    cleared-map (new_top image) (heap_words image) (redirected_where image (is_late_reference image))
    ∙ c.update_then_clear.ensures.words image c.planned_image_is_valid.ensures.live_list
