use Rattle.std.proofs.Common.{◌≡◌, sym, subst}
use Rattle.scheduler.specs.MoveTable.{IsMoveTable}
use Rattle.scheduler.proofs.moves.given_moves.GivenMoves.copy_of.Goals as goal

pub invariant_of-result : goal.invariant_of-result
invariant_of-result g c =
    let same : record { fill = c.in_ok-fill.fill.items; pairs = c.in_ok-pairs.pairs.items } ≡ g.M.Moves.table c.args.moves.now = λ i. record { fill = c.in_ok-fill.ensures i; pairs = c.in_ok-pairs.ensures i } in
    subst IsMoveTable (sym same) c.regions-regions.ensures.lawful
