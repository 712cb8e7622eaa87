-- What a board keeps, of objects of either kind.
use Rattle.std.proofs.Common.{◌≡◌, Bool, true, false}
use Rattle.object_heap.specs.HeapImage.{HeapImage}
use Rattle.scheduler.specs.ImageMoves.{image_table}
use Rattle.claim_board.specs.declared.regions.region_board.RegionBoard.{RegionBoard}
use Rattle.claim_board.specs.RegionBoards.{moves}
use Rattle.fill.specs.KeptImages.{Keeps}

-- its moves are the image's
pub moves_kept : (redirects : Bool) (image : HeapImage) (b : RegionBoard) → Keeps redirects image b → moves b ≡ image_table image
moves_kept true image b keeps = keeps.moves
moves_kept false image b keeps = keeps.moves
