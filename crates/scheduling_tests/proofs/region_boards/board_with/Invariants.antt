use Rattle.scheduling_tests.proofs.Lemmas.Nexts.{nexts}
use Rattle.scheduling_tests.proofs.region_boards.board_with.Given as goal

abbrev pub ghosts-new : goal.ghosts-new
ghosts-new g a = record { words = nexts a.regions.items }
