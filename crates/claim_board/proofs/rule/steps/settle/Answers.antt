use Rattle.std.proofs.Common.{◌+◌, ◌-◌, ◌%◌, ◌^◌, ◌<◌, suc, arith}
use mathlib.Core.Option.{none}
use Rattle.atomic_table.specs.Table.{step}
use Rattle.scheduler.specs.declared.event.Event.TheVariants.{Settle}
use Rattle.scheduler.specs.MoveTable.{region_count}
use Rattle.claim_board.specs.Rule.{settle_reply}
use Rattle.claim_board.specs.Slots.{slots, first_of_slot, moved_of}
use Rattle.claim_board.specs.Views.{worker_of, mine_of}
use Rattle.claim_board.proofs.Lemmas.Effects.{settles}
use Rattle.claim_board.proofs.Lemmas.Plans.{allowed, settle_plan}
use Rattle.claim_board.proofs.rule.steps.settle.Goals as goal

pub fetch_sub-requires : goal.fetch_sub-requires
fetch_sub-requires g c =
    let a = c.requires.about in
    let e = c.requires.key in
    let k = c.args.words.now.key in
    let t = c.args.words.now.table_id in
    let me = c.args.seat.now.me in
    let w = worker_of me.0 in
    let below : (region_count k.moves) < suc (region_count k.moves) = (let z = c.requires.remaining in omega arith) in (
      c.requires.seat,
      (let z = c.requires.size in let y = c.requires.remaining in omega arith),
      rw (c.requires.remaining, e.0, e.1, a.0, a.1) (allowed k t.slots c.args.seat.now.id (region_count k.moves) me (Settle c.args.region) settle_reply (λ n. (n + (2 ^ 64 - 1)) % 2 ^ 64) (step t.slots (region_count k.moves) 1 0 none) below c.requires.pass
          (settles c.what_legal_histories_keep.ensures c.what_own_calls_tell.ensures c.how_counts_go_down.ensures k.moves k.workers w c.args.region (mine_of me.0) c.requires.claimed c.requires.filled c.requires.unsettled)
          (settle_plan k.moves (slots k) (first_of_slot k) (moved_of k) k.workers w c.args.region me.1)),
    )
