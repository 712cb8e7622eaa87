use Rattle.std.proofs.Common.{◌+◌, ◌-◌, ◌%◌, ◌^◌, ◌<◌, suc, arith}
use mathlib.Core.Option.{none}
use Rattle.atomic_table.specs.Table.{step}
use Rattle.scheduler.specs.declared.event.Event.TheVariants.{Drain}
use Rattle.scheduler.specs.MoveTable.{region_count}
use Rattle.claim_board.specs.Rule.{drain_reply}
use Rattle.claim_board.specs.Views.{worker_of, mine_of}
use Rattle.claim_board.proofs.Lemmas.Effects.{drains}
use Rattle.claim_board.proofs.Lemmas.Plans.{allowed, drain_plan}
use Rattle.claim_board.proofs.rule.steps.drain.Goals as goal

pub fetch_sub-requires : goal.fetch_sub-requires
fetch_sub-requires g c =
    let a = c.requires.about in
    let e = c.requires.key in
    let k = c.args.words.now.key in
    let t = c.args.words.now.table_id in
    let me = c.args.seat.now.me in
    let w = worker_of me.0 in
    let below : c.args.source < suc (region_count k.moves) = (let z = c.requires.region in omega arith) in (
      c.requires.seat,
      (let z = c.requires.size in let y = c.requires.region in omega arith),
      rw (e.0, e.1, a.0, a.1) (allowed k t.slots c.args.seat.now.id c.args.source me (Drain c.args.destination c.args.source) drain_reply (λ n. (n + (2 ^ 64 - 1)) % 2 ^ 64) (step t.slots c.args.source 1 0 none) below c.requires.pass
          (drains c.what_legal_histories_keep.ensures c.what_own_calls_tell.ensures c.how_counts_go_down.ensures k.moves k.workers w c.args.destination c.args.source (mine_of me.0) c.requires.region c.requires.filling c.requires.pending)
          (drain_plan k c.shares_follow_the_state.ensures.moves w c.args.destination c.args.source me.1 c.requires.held)),
    )
