use Rattle.std.proofs.Common.{◌≡◌, List, ℕ, [], length, ap, ◌∙◌, arith}
use Rattle.std.specs.Prelude.{slice_index_or}
use Rattle.object_heap.specs.HeapImage.{HeapImage, region_count}
use Rattle.scheduler.specs.MoveTable.{MoveTable, to_fill, region_count as table_regions}
use Rattle.execution_tests.proofs.Lemmas.Blocks.{block_left, all_moved, filled_at}
use Rattle.execution_tests.proofs.kept.moved.Goals as goal

pub returns-in-Some : goal.returns-in-Some
returns-in-Some c =
    let image : HeapImage = c.args.plan.now in
    let blocks : List (List ℕ) = c.in-Some.regions.items in
    let keeps = c.requires.keeps in
    let valid = c.planned_image_is_valid.ensures in
    let moves = c.moves_of_images.ensures in
    let fills = c.regions_to_fill.ensures in
    let laws = c.blocks_of_regions.ensures in
    let all = ap table_regions keeps.moves ∙ moves.regions image in
    let count : length blocks ≡ region_count image = c.in-Some.ensures.count ∙ all in
    all_moved image blocks count (λ r inside.
    filled_at image c.args.board (slice_index_or blocks r []) r keeps
    (ap (λ (m : MoveTable). to_fill m r) keeps.moves ∙ (moves.to_fill image valid r ∙ fills.count image r)) inside
    (block_left image r (fills.count image r) (laws.moved image r inside) (λ above. laws.kept image r above inside))
    (c.in-Some.ensures.words r (omega (arith, inside, all))))
