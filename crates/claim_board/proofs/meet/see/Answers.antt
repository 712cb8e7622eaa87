use Rattle.std.proofs.Common.{◌<◌, suc, arith}
use mathlib.Core.Option.{none}
use Rattle.atomic_table.specs.Table.{step}
use Rattle.scheduler.specs.MoveTable.{region_count}
use Rattle.claim_board.proofs.Lemmas.Meets.{sees_all}
use Rattle.claim_board.proofs.meet.see.Goals as goal

pub load-requires : goal.load-requires
load-requires g c =
    let a = c.requires.about in
    let k = c.args.words.now.key in
    let n = c.args.words.now.table_id.slots in
    let below : 0 < suc (region_count k.moves) = omega arith in (
      c.requires.seat,
      (let z = c.requires.size in omega arith),
      rw (a.0, a.1) (sees_all k n c.args.seat.now.id 0 c.args.seat.now.me (step n 0 0 0 none) below c.requires.note),
    )
