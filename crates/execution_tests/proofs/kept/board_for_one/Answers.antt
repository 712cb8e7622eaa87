use Rattle.std.proofs.Common.{◌≡◌, ℕ, ◌<◌, List, [], ap, sym, ◌∙◌, subst, arith}
use Rattle.std.specs.Prelude.{slice_index_or}
use Rattle.object_heap.specs.HeapImage.{HeapImage, region_count, block_of}
use Rattle.scheduler.specs.MoveTable.{region_count as table_regions}
use Rattle.scheduler.specs.ImageMoves.{image_table}
use Rattle.claim_board.specs.RegionBoards.{identity}
use Rattle.region_cells.specs.Blocks.{blocks_of, moved_block}
use Rattle.fill.specs.KeptImages.{KeepsImage}
use Rattle.execution_tests.proofs.Lemmas.Blocks.{block_at}
use Rattle.execution_tests.proofs.Lemmas.Passes.{are_all}
use Rattle.execution_tests.proofs.kept.board_for_one.Goals as goal

pub returns-in-Ok-clause-keeps : goal.returns-in-Ok-clause-keeps
returns-in-Ok-clause-keeps c =
    let plan : HeapImage = c.args.plan.now in
    let board = c.in-Ok.board in
    let made = c.in-Ok.ensures in
    let n : ℕ = region_count plan in
    let valid = c.planned_image_is_valid.ensures in
    let all : table_regions (image_table plan) ≡ n = c.moves_of_images.ensures.regions plan in
    let copies = c.in_ok-regions.ensures ∙ ap blocks_of (sym c.requires) in
    let keeps : KeepsImage plan board = record {
      moves = made.moves;
      original = λ r inside.
          made.original r (omega (arith, inside, all)) ∙ (ap (λ (bs : List (List ℕ)). slice_index_or bs r []) copies ∙ block_at (block_of plan) n r inside);
      moved = λ r low.
          let inside : r < n = omega (arith, low, c.regions_to_fill.ensures.few plan valid) in
          made.moved r (omega (arith, inside, all)) ∙ block_at (moved_block plan) n r inside;
    } in
    subst (λ (i : HeapImage). KeepsImage i board) c.requires keeps

pub returns-in-Ok-clause-passes : goal.returns-in-Ok-clause-passes
returns-in-Ok-clause-passes c = (are_all (identity c.in-Ok.board) 0 c.in-Ok.passes.items c.in-Ok.ensures.passes.1, c.in-Ok.ensures.bare)
