use Rattle.claim_board.specs.Boards.{identity}
use Rattle.scheduling_tests.proofs.Lemmas.Passes.{all_of_each}
use Rattle.scheduling_tests.proofs.threads.worked.Goals as goal

pub work_all-requires-clause-passes : goal.work_all-requires-clause-passes
work_all-requires-clause-passes g c κs within = all_of_each (identity c.args.board.now) c.args.passes.items c.requires
