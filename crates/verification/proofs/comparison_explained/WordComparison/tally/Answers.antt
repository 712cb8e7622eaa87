use Rattle.std.proofs.Common.{◌≡◌, ℕ, ◌+◌, ◌≤◌, List, length, get_or, refl, sym, ◌∙◌, ap, subst, arith}
use Rattle.object_heap.specs.HeapImage.{HeapImage, word_at, size_at}
use Rattle.summary.specs.LiveObjects.{object_count}
use Rattle.summary.specs.NewAddresses.{new_top}
use Rattle.summary.specs.Compaction.{compact}
use Rattle.verification.specs.Compared.{behind}
use Rattle.verification.proofs.Lemmas.Gaps.{behind-zero, behind-next}
use Rattle.verification.proofs.Lemmas.Placing.{place_end, top_reached, place_of, end_of_place}
use Rattle.verification.proofs.Lemmas.Visits.{low, run, object}
use Rattle.verification.proofs.Lemmas.Comparing.{top_exact, tally_to}
use Rattle.verification.proofs.comparison_explained.WordComparison.tally.Goals as goal

place_inside : (place s n : ℕ) → place + s ≤ n → place ≤ n
place_inside place s n h = omega (arith, h)

pub loop-a-init : goal.loop-a-init
loop-a-init c = record {
  next = sym (behind-zero _);
  tally = c.new-tally.ensures (word_at (compact c.args.self.now.before.now)) (word_at c.args.self.now.after.now);
}

pub compare_gap-requires-clause-ordered : goal.compare_gap-requires-clause-ordered
compare_gap-requires-clause-ordered c =
    let image : HeapImage = c.args.self.now.before.now in
    let items : List ℕ = c.live-a-items.result.now in
    let i : ℕ = c.loop-a.a-index in
    let place : ℕ = c.new_address-place.result in
    low image c.objects_are_placed.ensures items i c.loop-a.next place c.live-a-items.ensures.value c.loop-a-test.true c.loop-a.invariant.next
    (place_of image c.plan.result.now items i place (c.plan.ensures ∙ c.args.self.now.survey_of) c.live-a-items.ensures.value c.new_address-place.ensures)

pub compare_gap-requires-clause-run : goal.compare_gap-requires-clause-run
compare_gap-requires-clause-run c =
    let image : HeapImage = c.args.self.now.before.now in
    let items : List ℕ = c.live-a-items.result.now in
    let i : ℕ = c.loop-a.a-index in
    let place : ℕ = c.new_address-place.result in
    run image c.objects_are_placed.ensures items i c.loop-a.next place c.live-a-items.ensures.value c.loop-a-test.true c.loop-a.invariant.next
    (place_of image c.plan.result.now items i place (c.plan.ensures ∙ c.args.self.now.survey_of) c.live-a-items.ensures.value c.new_address-place.ensures)

pub compare_object-requires-clause-placed : goal.compare_object-requires-clause-placed
compare_object-requires-clause-placed c =
    let image : HeapImage = c.args.self.now.before.now in
    let items : List ℕ = c.live-a-items.result.now in
    let i : ℕ = c.loop-a.a-index in
    let place : ℕ = c.new_address-place.result in
    object image c.objects_are_placed.ensures items i c.loop-a.next place c.live-a-items.ensures.value c.loop-a-test.true c.loop-a.invariant.next
    (place_of image c.plan.result.now items i place (c.plan.ensures ∙ c.args.self.now.survey_of) c.live-a-items.ensures.value c.new_address-place.ensures)

pub loop-a-preserved : goal.loop-a-preserved
loop-a-preserved c =
    let image : HeapImage = c.args.self.now.before.now in
    let after : HeapImage = c.args.self.now.after.now in
    let items : List ℕ = c.live-a-items.result.now in
    let i : ℕ = c.loop-a.a-index in
    let place : ℕ = c.new_address-place.result in
    let place_is = place_of image c.plan.result.now items i place (c.plan.ensures ∙ c.args.self.now.survey_of) c.live-a-items.ensures.value c.new_address-place.ensures in
    record {
      next = end_of_place image items i place c.size_at.result c.live-a-items.ensures.value place_is c.size_at.ensures.value ∙ sym (behind-next (place_end image) i (i + 1) refl);
      tally = tally_to (place + size_at image (get_or items i 0)) (place + c.size_at.result) (ap (λ n. place + n) (sym c.size_at.ensures.value)) c.in_ok-compare_object.ensures;
    }

all_read : (items : List ℕ) (live : List ℕ) (i : ℕ) → items ≡ live → i ≤ length items → length items ≤ i → i ≡ length live
all_read items live i is low high = let same : i ≡ length items = omega (arith, low, high) in same ∙ ap length is

within : (a b c : ℕ) → a ≤ b → b ≤ c → a ≤ c
within a b c h k = omega (arith, h, k)

pub compare_free-requires-clause-above : goal.compare_free-requires-clause-above
compare_free-requires-clause-above c =
    let image : HeapImage = c.args.self.now.before.now in
    let all = all_read c.live-a-items.result.now image.live c.loop-a.a-index c.live-a-items.ensures.value c.loop-a.auto.a-index-end c.loop-a-test.false in
    subst (λ n. new_top image ≤ n) (sym (c.loop-a.invariant.next ∙ ap (behind (place_end image)) all)) (top_reached image c.objects_are_placed.ensures)

pub compare_free-requires-clause-ordered : goal.compare_free-requires-clause-ordered
compare_free-requires-clause-ordered c =
    let image : HeapImage = c.args.self.now.before.now in
    let all = all_read c.live-a-items.result.now image.live c.loop-a.a-index c.live-a-items.ensures.value c.loop-a.auto.a-index-end c.loop-a-test.false in
    subst (λ n. n ≤ c.args.limit) (sym (c.loop-a.invariant.next ∙ ap (behind (place_end image)) all))
    (within (behind (place_end image) (object_count image)) (new_top image) c.args.limit (top_exact image c.objects_are_placed.ensures) c.requires.above)
