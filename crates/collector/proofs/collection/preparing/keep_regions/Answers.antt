use Rattle.std.proofs.Common.{◌≡◌, ◌<◌, ◌≤◌, ℕ, List, [], map, sym, subst, ap, ◌∙◌, arith}
use Rattle.std.specs.Prelude.{option_map, slice_index_or}
use Rattle.std.specs.List.{range_with_len}
use Rattle.std.proofs.lemmas.List.FromFn.{length-map-range_with_len, get_or-map-range_with_len}
use Rattle.object_heap.specs.HeapImage.{HeapImage, IsValid, AreBlocks, region_count, block_of, versioned_image_of}
use Rattle.summary.specs.RegionData.{fill_count}
use Rattle.scheduler.specs.ImageMoves.{image_table}
use Rattle.scheduler.specs.MoveTable.{region_count as regions_of}
use Rattle.heap_image.specs.declared.image.ImageParts.{ImageParts}
use Rattle.region_cells.specs.Blocks.{moved_block}
use Rattle.collector.proofs.collection.preparing.keep_regions.Goals as goal

-- the words of one region
at : (f : ℕ → List ℕ) (n r : ℕ) → r < n → slice_index_or (map f (range_with_len 0 n)) r [] ≡ f r
at f n r inside = get_or-map-range_with_len f 0 n r r [] inside (omega arith)

pub new-requires-2-clause-moved : goal.new-requires-2-clause-moved
new-requires-2-clause-moved c =
    let image : HeapImage = c.args.plan.now in
    length-map-range_with_len (moved_block image) 0 (region_count image) ∙ sym (c.moves_of_images.ensures.regions image)

pub with_regions-requires-clause-parts : goal.with_regions-requires-clause-parts
with_regions-requires-clause-parts c =
    let parts : ImageParts = c.into_parts-parts.result in
    let p = c.into_parts-parts.ensures in
    let image : HeapImage = c.args.plan.now in
    let blocks : parts.regions.items ≡ map (block_of image) (range_with_len 0 (region_count image)) =
    p.blocks ∙ ap (λ (i : HeapImage). map (block_of i) (range_with_len 0 (region_count i))) (sym c.requires.same) in
    record {
      whole = c.requires.same ∙ (p.whole ∙ ap (λ (xs : List (List ℕ)). versioned_image_of parts.version parts.region_log parts.allowance xs parts.live.items (option_map (λ v. v.items) parts.roots)) blocks);
      blocks = subst (AreBlocks parts.region_log) blocks p.parts.whole;
    }

pub with_regions-requires-clause-count : goal.with_regions-requires-clause-count
with_regions-requires-clause-count c = c.in-Err.ensures.back.0 ∙ c.moves_of_images.ensures.regions c.args.plan.now

pub with_regions-requires-clause-words : goal.with_regions-requires-clause-words
with_regions-requires-clause-words c r inside =
    let image : HeapImage = c.args.plan.now in
    let p = c.into_parts-parts.ensures in
    let n : regions_of (image_table image) ≡ region_count image = c.moves_of_images.ensures.regions image in
    c.in-Err.ensures.back.1 r (subst (λ (k : ℕ). r < k) (sym n) inside)
    ∙ (ap (λ (xs : List (List ℕ)). slice_index_or xs r []) (ap (λ v. v.items) c.replace-regions.ensures.value ∙ (p.blocks ∙ ap (λ (i : HeapImage). map (block_of i) (range_with_len 0 (region_count i))) (sym c.requires.same)))
    ∙ at (block_of image) (region_count image) r inside)

pub returns-in-Ok-clause-keeps : goal.returns-in-Ok-clause-keeps
returns-in-Ok-clause-keeps c =
    let plan : HeapImage = c.args.plan.now in
    let image : HeapImage = c.args.image in
    let p = c.into_parts-parts.ensures in
    let e = c.in-Ok.ensures in
    let same : plan ≡ image = c.requires.same in
    let n : regions_of (image_table plan) ≡ region_count image = c.moves_of_images.ensures.regions plan ∙ ap (λ (i : HeapImage). region_count i) same in
    let few : fill_count image ≤ region_count image = c.regions_to_fill.ensures.few image (subst IsValid same c.planned_image_is_valid.ensures) in
    record {
      moves = e.moves ∙ ap image_table same;
      original = λ r inside. e.original r (subst (λ (k : ℕ). r < k) (sym n) inside)
          ∙ (ap (λ (xs : List (List ℕ)). slice_index_or xs r []) (ap (λ v. v.items) c.replace-regions.ensures.value ∙ p.blocks) ∙ at (block_of image) (region_count image) r inside);
      moved = λ r below.
          let inside : r < region_count image = omega (arith, below, few) in
          e.moved r (subst (λ (k : ℕ). r < k) (sym n) inside)
          ∙ (ap (λ (i : HeapImage). slice_index_or (map (moved_block i) (range_with_len 0 (region_count i))) r []) same ∙ at (moved_block image) (region_count image) r inside);
    }

pub returns-in-Ok-clause-rest : goal.returns-in-Ok-clause-rest
returns-in-Ok-clause-rest c =
    let parts : ImageParts = c.into_parts-parts.result in
    let p = c.into_parts-parts.ensures in
    let image : HeapImage = c.args.image in
    record {
      whole = p.whole ∙ ap (λ (xs : List (List ℕ)). versioned_image_of parts.version parts.region_log parts.allowance xs parts.live.items (option_map (λ v. v.items) parts.roots)) p.blocks;
      blocks = subst (AreBlocks parts.region_log) p.blocks p.parts.whole;
    }
