use Rattle.std.proofs.Common.{sym, ◌∙◌}
use Rattle.claim_board.specs.RegionBoards.{identity}
use Rattle.scheduling_tests.proofs.Lemmas.Passes.{are_all}
use Rattle.scheduling_tests.proofs.Lemmas.Zeros.{zeros, zeros_at}
use Rattle.scheduling_tests.proofs.cleared_boards.cleared_board_of.Goals as goal

pub returns-in-Ok-clause-passes : goal.returns-in-Ok-clause-passes
returns-in-Ok-clause-passes c = (are_all (identity c.in-Ok.board) 0 c.in-Ok.passes.items c.in-Ok.ensures.passes.1, c.in-Ok.ensures.bare)

pub returns-in-Ok-clause-zero : goal.returns-in-Ok-clause-zero
returns-in-Ok-clause-zero c r inside =
    let made = zeros_at c.in_ok-regions.regions.items r in
    let original = sym (c.in-Ok.ensures.original r inside) in
    c.in-Ok.ensures.moved r inside ∙ (made ∙ (λ i. zeros (original i)))
