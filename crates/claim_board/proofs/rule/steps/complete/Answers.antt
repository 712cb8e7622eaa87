use Rattle.std.proofs.Common.{◌<◌, suc, bit_or, arith}
use mathlib.Core.Option.{none}
use Rattle.atomic_table.specs.Table.{step}
use Rattle.scheduler.specs.declared.event.Event.TheVariants.{Complete}
use Rattle.scheduler.specs.MoveTable.{region_count}
use Rattle.claim_board.specs.Rule.{complete_reply}
use Rattle.claim_board.specs.Views.{worker_of, mine_of}
use Rattle.claim_board.proofs.Lemmas.Effects.{completes}
use Rattle.claim_board.proofs.Lemmas.Plans.{allowed, complete_plan}
use Rattle.claim_board.proofs.rule.steps.complete.Goals as goal

pub fetch_or-requires : goal.fetch_or-requires
fetch_or-requires g c =
    let a = c.requires.about in
    let e = c.requires.key in
    let k = c.args.words.now.key in
    let t = c.args.words.now.table_id in
    let me = c.args.seat.now.me in
    let w = worker_of me.0 in
    let below : c.args.region < suc (region_count k.moves) = (let z = c.requires.region in omega arith) in (
      c.requires.seat,
      (let z = c.requires.size in let y = c.requires.region in omega arith),
      rw (e.0, e.1, a.0, a.1) (allowed k t.slots c.args.seat.now.id c.args.region me (Complete c.args.region) complete_reply (λ n. bit_or n 4) (step t.slots c.args.region 4 0 none) below c.requires.pass
          (completes c.what_own_calls_tell.ensures k.moves k.workers w c.args.region (mine_of me.0) c.requires.filling c.requires.drained c.requires.region)
          (complete_plan k c.shares_follow_the_state.ensures.moves w c.args.region me.1 c.requires.held)),
    )
