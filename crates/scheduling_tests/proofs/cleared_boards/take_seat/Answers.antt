use Rattle.std.proofs.Common.{subst}
use Rattle.claim_board.specs.Boards.{AllOf, AllBare}
use Rattle.claim_board.specs.RegionBoards.{identity}
use Rattle.scheduling_tests.proofs.Lemmas.Passes.{all_of_front, all_bare_front}
use Rattle.scheduling_tests.proofs.cleared_boards.take_seat.Goals as goal

pub returns-clause-seat : goal.returns-clause-seat
returns-clause-seat c =
    let z = identity c.args.board.now in
    let left = c.pop.new.self.items in
    let last = c.in-Some.pass in (
      (all_of_front z left last (subst (AllOf z) c.in-Some.ensures.items c.requires.0)).1,
      (all_bare_front left last (subst AllBare c.in-Some.ensures.items c.requires.1)).1,
    )

pub returns-clause-rest : goal.returns-clause-rest
returns-clause-rest c =
    let z = identity c.args.board.now in
    let left = c.pop.new.self.items in
    let last = c.in-Some.pass in (
      (all_of_front z left last (subst (AllOf z) c.in-Some.ensures.items c.requires.0)).0,
      (all_bare_front left last (subst AllBare c.in-Some.ensures.items c.requires.1)).0,
    )
