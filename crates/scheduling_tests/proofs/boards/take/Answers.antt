use Rattle.std.proofs.Common.{subst}
use Rattle.claim_board.specs.Boards.{identity, AllOf}
use Rattle.scheduling_tests.proofs.Lemmas.Passes.{all_of_front}
use Rattle.scheduling_tests.proofs.boards.take.Goals as goal

pub returns-clause-pass : goal.returns-clause-pass
returns-clause-pass c =
    let z = identity c.args.board.now in
    (all_of_front z c.pop.new.self.items c.in-Some.pass (subst (AllOf z) c.in-Some.ensures.items c.requires)).1

pub returns-clause-rest : goal.returns-clause-rest
returns-clause-rest c =
    let z = identity c.args.board.now in
    (all_of_front z c.pop.new.self.items c.in-Some.pass (subst (AllOf z) c.in-Some.ensures.items c.requires)).0
