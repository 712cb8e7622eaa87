use Rattle.std.proofs.Common.{◌≡◌, ◌<◌, ℕ, sym, subst, ap, ◌∙◌}
use Rattle.object_heap.specs.HeapImage.{HeapImage, IsValid, region_count as regions_of}
use Rattle.scheduler.specs.MoveTable.{MoveTable, region_count, to_fill}
use Rattle.claim_board.specs.RegionBoards.{moves, original_words, moved_words}
use Rattle.region_cells.specs.Blocks.{moved_block}
use Rattle.collector.proofs.Lemmas.Regions.{all_become, block_stays}
use Rattle.collector.proofs.collection.clean_up.clean_up.Goals as goal

pub compaction_of-image-requires-clause-moved : goal.compaction_of-image-requires-clause-moved
compaction_of-image-requires-clause-moved g c =
    let image : HeapImage = c.args.survey.now in
    let b = c.requires.moved.0 in
    let keeps = c.requires.moved.1 in
    let count = c.requires.moved.2 in
    let words = c.requires.moved.3 in
    let valid : IsValid image = subst IsValid c.plan.ensures c.planned_image_is_valid.ensures in
    let same : region_count (moves b) ≡ regions_of image = ap region_count keeps.moves ∙ c.moves_of_images.ensures.regions image in
    all_become image (moves b) (original_words b) (moved_words b) (moved_block image) c.args.moved.items (count ∙ same)
    (λ r inside. words r (subst (λ (n : ℕ). r < n) (sym same) inside))
    (λ r. ap (λ (m : MoveTable). to_fill m r) keeps.moves ∙ (c.moves_of_images.ensures.to_fill image valid r ∙ c.regions_to_fill.ensures.count image r))
    (λ r inside below. keeps.moved r below)
    (λ r inside after. keeps.original r inside
    ∙ block_stays image r (c.regions_to_fill.ensures.count image r) (c.blocks_of_regions.ensures.moved image r inside) (λ above. c.blocks_of_regions.ensures.kept image r above inside) after)
