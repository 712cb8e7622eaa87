use Rattle.box_row.specs.Rows.{spot}
use Rattle.claim_board.proofs.Lemmas.Sharing.{moved_in}
use Rattle.claim_board.proofs.regions.region_board.RegionBoard.new.Given as goal

abbrev pub ghosts-assemble : goal.ghosts-assemble
ghosts-assemble g a = record { regions = moved_in (spot a.row) 0 g.E.MovedWords.words }
