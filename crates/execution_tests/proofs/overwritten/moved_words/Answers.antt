use Rattle.std.proofs.Common.{◌≡◌, ◌<◌, ℕ, List, [], length, get_or, ap, ◌∙◌, arith}
use Rattle.std.proofs.lemmas.List.{get_or_read}
use Rattle.std.proofs.lemmas.List.FromFn.{length-map-range_with_len}
use Rattle.object_heap.specs.HeapImage.{HeapImage, region_words, region_count, start_of}
use Rattle.summary.specs.Compaction.{moved_word}
use Rattle.region_cells.specs.Blocks.{moved_block}
use Rattle.execution_tests.proofs.Lemmas.Blocks.{block_at}
use Rattle.execution_tests.proofs.overwritten.moved_words.Goals as goal

-- the regions are all there
count : (image : HeapImage) (regions : List (List ℕ)) → regions ≡ Rattle.fill.specs.MovedHeap.moved_regions image → region_count image ≡ 4 → length regions ≡ 4
count image regions are four = ap length are ∙ (length-map-range_with_len (moved_block image) 0 (region_count image) ∙ four)

pub index-requires : goal.index-requires
index-requires c =
    let base = c.args.base.now in
    omega (arith, count base.cells base.moved.items base.are_moved base.four, base.moved.ok.0, c.requires)

pub returns-clause-words : goal.returns-clause-words
returns-clause-words c =
    let base = c.args.base.now in
    let image : HeapImage = base.cells in
    let r : ℕ = c.args.region in
    let below : r < length base.moved.items = omega (arith, count image base.moved.items base.are_moved base.four, c.requires) in
    get_or_read base.moved.items r c.index.result.now below c.index.ensures []
    ∙ (ap (λ (l : List (List ℕ)). get_or l r []) base.are_moved ∙ block_at (moved_block image) (region_count image) r (omega (arith, base.four, c.requires)))

pub returns-clause-length : goal.returns-clause-length
returns-clause-length c =
    let image : HeapImage = c.args.base.now.cells in
    ap length (returns-clause-words c) ∙ length-map-range_with_len (moved_word image) (start_of image c.args.region) (region_words image)
