use Rattle.std.proofs.Common.{sym, subst}
use Rattle.claim_board.specs.Boards.{AllOf, AllBare}
use Rattle.claim_board.specs.RegionBoards.{identity}
use Rattle.scheduling_tests.proofs.Lemmas.Passes.{all_push, all_bare_push}
use Rattle.scheduling_tests.proofs.cleared_boards.put_seat.Goals as goal

pub returns : goal.returns
returns c =
    let z = identity c.args.board.now in
    let before = c.args.passes.now.items in
    let pass = c.args.seat.pass in (
      subst (AllOf z) (sym c.in_ok-push.ensures.items) (all_push z before pass c.requires.passes.0 c.requires.seat.0),
      subst AllBare (sym c.in_ok-push.ensures.items) (all_bare_push before pass c.requires.passes.1 c.requires.seat.1),
    )
