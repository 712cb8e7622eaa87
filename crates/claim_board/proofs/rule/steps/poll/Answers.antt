use Rattle.std.proofs.Common.{◌<◌, suc, arith}
use mathlib.Core.Option.{none}
use Rattle.atomic_table.specs.Table.{step}
use Rattle.scheduler.specs.declared.event.Event.TheVariants.{Poll}
use Rattle.scheduler.specs.MoveTable.{region_count}
use Rattle.claim_board.specs.Rule.{poll_reply}
use Rattle.claim_board.specs.Slots.{slots, first_of_slot, moved_of}
use Rattle.claim_board.specs.Views.{worker_of, mine_of}
use Rattle.claim_board.proofs.Lemmas.Effects.{polls}
use Rattle.claim_board.proofs.Lemmas.Plans.{allowed, poll_plan}
use Rattle.claim_board.proofs.rule.steps.poll.Goals as goal

pub load-requires : goal.load-requires
load-requires g c =
    let a = c.requires.about in
    let e = c.requires.key in
    let k = c.args.words.now.key in
    let t = c.args.words.now.table_id in
    let me = c.args.seat.now.me in
    let w = worker_of me.0 in
    let below : (region_count k.moves) < suc (region_count k.moves) = (let z = c.requires.remaining in omega arith) in (
      c.requires.seat,
      (let z = c.requires.size in let y = c.requires.remaining in omega arith),
      rw (c.requires.remaining, e.0, e.1, a.0, a.1) (allowed k t.slots c.args.seat.now.id (region_count k.moves) me Poll poll_reply (λ n. n) (step t.slots (region_count k.moves) 0 0 none) below c.requires.pass
          (polls k.moves k.workers w (mine_of me.0))
          (poll_plan k.moves (slots k) (first_of_slot k) (moved_of k) k.workers w me.1)),
    )
