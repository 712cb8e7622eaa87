use Rattle.std.proofs.Common.{arith}
use mathlib.Core.Option.{none}
use Rattle.atomic_table.specs.Table.{step}
use Rattle.scheduler.specs.MoveTable.{region_count}
use Rattle.claim_board.proofs.Lemmas.Meets.{surveys_all}
use Rattle.claim_board.proofs.finish.survey.Goals as goal

pub load-requires : goal.load-requires
load-requires g c =
    let a = c.requires.about in
    let k = c.args.words.now.key in
    let n = c.args.words.now.table_id.slots in (
      c.requires.seat,
      (let z = c.requires.size in let y = c.requires.remaining in omega arith),
      rw (c.requires.remaining, a.0, a.1) (surveys_all k n c.args.seat.now.id c.args.seat.now.me (step n (region_count k.moves) 0 0 none)),
    )
