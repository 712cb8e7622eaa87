use Rattle.std.proofs.Common.{◌≡◌, ◌+◌, ◌*◌, ℕ, List, [], ◌∷◌, ◌++◌, map, sym, ◌∙◌, ap, arith}
use Rattle.std.specs.List.{range_with_len}
use Rattle.std.proofs.lemmas.List.FromFn.{map-range_with_len_more}
use Rattle.object_heap.specs.HeapImage.{start_of}
use Rattle.summary.specs.Plan.{place_in}
use Rattle.summary.specs.RegionData.{deferred}
use Rattle.summary.proofs.plan.deferred.deferred_places.Goals as goal

pub loop-d-preserved : goal.loop-d-preserved
loop-d-preserved c =
    let image = c.args.image.now in
    let d : ℕ = c.loop-d.d in
    let place : ℕ → ℕ = λ r. place_in image r (deferred image r) in
    let n : ℕ = c.region_words-region_words.result in
    let placed = c.placed_below-placed.ensures in
    let end : (c.from.result + 1) * n ≡ start_of image (d + 1) = ap (λ m. (m + 1) * n) c.from.ensures ∙ ap (λ m. (d + 1) * m) c.region_words-region_words.ensures.value in
    let pushed : c.push.new.self.items ≡ c.loop-d.places.items ++ c.deferred_in.result ∷ [] = c.in_ok-push.ensures.items in
    record {
      made = pushed
          ∙ ap (λ (l : List ℕ). l ++ c.deferred_in.result ∷ []) c.loop-d.invariant.made
          ∙ ap (λ a. map place (range_with_len 0 d) ++ a ∷ []) c.deferred_in.ensures
          ∙ sym (map-range_with_len_more place 0 d d (omega arith));
      within = placed.within;
      known = λ i l. let low = placed.below i l in omega arith;
    }
