use Rattle.std.proofs.Common.{◌≡◌, ◌<◌, ◌≤◌, ℕ, List, [], length, map, sym, subst, ap, ◌∙◌, arith}
use Rattle.std.specs.Prelude.{slice_index_or}
use Rattle.std.specs.List.{range_with_len}
use Rattle.std.proofs.lemmas.List.{same_lists, get_or_default}
use Rattle.std.proofs.lemmas.List.FromFn.{get_or-map-range_with_len}
use Rattle.object_heap.specs.HeapImage.{HeapImage, IsValid, region_count}
use Rattle.summary.specs.RegionData.{fill_count}
use Rattle.scheduler.specs.ImageMoves.{image_table}
use Rattle.scheduler.specs.MoveTable.{region_count as regions_of}
use Rattle.claim_board.specs.RegionBoards.{original_words}
use Rattle.fill.specs.SlidWords.{slid_block}
use Rattle.collector.proofs.slide.Slide.board.Goals as goal
use Rattle.collector.proofs.slide.Slide.board.Goals.{After-new}

-- the words of one region
at : (f : ℕ → List ℕ) (n r : ℕ) → r < n → slice_index_or (map f (range_with_len 0 n)) r [] ≡ f r
at f n r inside = get_or-map-range_with_len f 0 n r r [] inside (omega arith)

module _ (c : After-new) where
  abbrev image : HeapImage
  image = c.args.self.now

  plan_is : c.plan-plan.result.now ≡ image
  plan_is = c.plan-plan.ensures ∙ c.self.view_is

  -- the board has as many regions
  count : regions_of (image_table c.plan-plan.result.now) ≡ region_count image
  count = c.moves_of_images.ensures.regions c.plan-plan.result.now ∙ ap (λ (i : HeapImage). region_count i) plan_is

  valid : IsValid image
  valid = subst IsValid plan_is c.planned_image_is_valid.ensures

  -- the words that the host's regions have
  abbrev given : ℕ → List ℕ
  given r = slice_index_or c.args.regions.items r []

pub returns-in-Ok-clause-words : goal.returns-in-Ok-clause-words
returns-in-Ok-clause-words c r inside =
    let now = (goal.at.returns-in-Ok-clause-words c).After-new in
    c.in-Ok.ensures.original r (subst (λ (n : ℕ). r < n) (sym (count now)) inside)

pub returns-in-Ok-clause-keeps : goal.returns-in-Ok-clause-keeps
returns-in-Ok-clause-keeps c =
    let now = (goal.at.returns-in-Ok-clause-keeps c).After-new in
    let e = c.in-Ok.ensures in
    let f : ℕ → List ℕ = given now in
    let few : fill_count (image now) ≤ region_count (image now) = c.regions_to_fill.ensures.few (image now) (valid now) in
    let original : (r : ℕ) → r < region_count (image now) → original_words c.in-Ok.board r ≡ f r = λ r inside. e.original r (subst (λ (n : ℕ). r < n) (sym (count now)) inside) in
    record {
      moves = e.moves ∙ ap image_table (plan_is now);
      whole = λ r inside. ap length (original r inside) ∙ c.requires.whole r [] (subst (λ (n : ℕ). r < n) (sym c.requires.count) inside);
      slid = λ r below.
          let inside : r < region_count (image now) = omega (arith, below, few) in
          e.moved r (subst (λ (n : ℕ). r < n) (sym (count now)) inside)
          ∙ ap (λ (i : HeapImage). slice_index_or (map (slid_block i f) (range_with_len 0 (region_count i))) r []) (plan_is now)
          ∙ at (slid_block (image now) f) (region_count (image now)) r inside
          ∙ c.opaque_regions_slide.ensures.same (image now) (valid now) f (original_words c.in-Ok.board) (λ q l. sym (original q l)) r inside;
    }

pub returns-in-Err-clause-back : goal.returns-in-Err-clause-back
returns-in-Err-clause-back c =
    let now = (goal.at.returns-in-Err-clause-back c).After-new in
    let back = c.in-Err.ensures.back in
    let long : length c.in-Err.regions.items ≡ length c.args.regions.items = back.0 ∙ count now ∙ sym c.requires.count in
    same_lists c.in-Err.regions.items c.args.regions.items long (λ k d inside.
    let here : k < length c.args.regions.items = subst (λ (n : ℕ). k < n) long inside in
    get_or_default c.in-Err.regions.items k d [] inside ∙ back.1 k (subst (λ (n : ℕ). k < n) back.0 inside) ∙ sym (get_or_default c.args.regions.items k d [] here))
