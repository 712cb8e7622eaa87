use Rattle.std.proofs.Common.{◌+◌, ◌<◌, sym, ◌∙◌, arith}
use Rattle.scheduler.specs.MoveTable.{region_count}
use Rattle.scheduling_tests.proofs.Lemmas.Nexts.{nexts_length, next_at}
use Rattle.scheduling_tests.proofs.region_boards.board_with.Goals as goal

pub new-requires-clause-moved : goal.new-requires-clause-moved
new-requires-clause-moved g c = nexts_length c.args.regions.items ∙ c.requires

pub returns-clause-moved : goal.returns-clause-moved
returns-clause-moved g c = λ r lt.
    let e = c.in_ok-board.ensures in
    let inside : r < region_count c.args.moves.now = omega arith in
    e.moved r inside ∙ (next_at c.args.regions.items r ∙ sym (e.original (r + 1) lt))
