use Rattle.std.proofs.Common.{subst}
use Rattle.claim_board.specs.Boards.{AllOf, AllBare}
use Rattle.claim_board.specs.RegionBoards.{identity}
use Rattle.execution_tests.proofs.Lemmas.Passes.{last_of_all, last_is_bare}
use Rattle.execution_tests.proofs.kept.keep.Goals as goal

pub returns-clause-seat : goal.returns-clause-seat
returns-clause-seat c =
    let z = identity c.in_ok-board.board in
    let left = c.pop.new.self.items in
    let last = c.in-Some.pass in
    let all = c.in_ok-board.ensures.passes in
    let items = c.in-Some.ensures.items in
    (last_of_all z left last (subst (AllOf z) items all.0), last_is_bare left last (subst AllBare items all.1))
