use Rattle.std.proofs.Common.{◌≡◌, ◌+◌, subst, arith}
use Rattle.scheduler.specs.MoveTable.{MoveTable}
use Rattle.scheduler.specs.MoveIndex.{IsIndexed}
use Rattle.scheduler.proofs.Lemmas.Indexes.{first_behind}
use Rattle.scheduler.proofs.moves.indexed_moves.IndexedMoves.first_from.Goals as goal

pub returns-in-Some : goal.returns-in-Some
returns-in-Some c =
    let m : MoveTable = c.args.self.now in
    let kept : IsIndexed m c.self.inside.first.items c.self.inside.readers.items = subst (λ (t : MoveTable). IsIndexed t c.self.inside.first.items c.self.inside.readers.items) c.self.view_is c.self.invariant in
    let last : c.saturating_sub-last.result + 1 ≡ c.args.source = let is = c.saturating_sub-last.ensures in let above = c.if-last-destination.false in omega arith in
    rw last at (first_behind m.pairs c.args.destination c.saturating_sub-last.result c.in-Some.at kept.table.ascending c.in-Some.ensures.found)
