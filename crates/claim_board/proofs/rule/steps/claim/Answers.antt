use Rattle.std.proofs.Common.{◌<◌, ◌==◌, suc, arith}
use mathlib.Core.Option.{none}
use prog.Atomic.{either}
use Rattle.atomic_table.specs.Table.{step}
use Rattle.scheduler.specs.declared.event.Event.TheVariants.{Claim}
use Rattle.scheduler.specs.MoveTable.{region_count}
use Rattle.claim_board.specs.Rule.{claim_reply}
use Rattle.claim_board.specs.Slots.{slots, first_of_slot, moved_of}
use Rattle.claim_board.specs.Views.{worker_of, mine_of}
use Rattle.claim_board.proofs.Lemmas.Effects.{claims}
use Rattle.claim_board.proofs.Lemmas.Plans.{allowed, claim_plan}
use Rattle.claim_board.proofs.rule.steps.claim.Goals as goal

pub compare_exchange-requires : goal.compare_exchange-requires
compare_exchange-requires g c =
    let a = c.requires.about in
    let e = c.requires.key in
    let k = c.args.words.now.key in
    let t = c.args.words.now.table_id in
    let me = c.args.seat.now.me in
    let w = worker_of me.0 in
    let below : c.args.region < suc (region_count k.moves) = (let z = c.requires.region in omega arith) in (
      c.requires.seat,
      (let z = c.requires.size in let y = c.requires.region in omega arith),
      rw (e.0, e.1, a.0, a.1, e.2, e.3) (allowed k t.slots c.args.seat.now.id c.args.region me (Claim c.args.region) claim_reply (λ n. either (n == 0) 8 n) (step t.slots c.args.region 0 8 none) below c.requires.pass
          (claims c.what_legal_histories_keep.ensures k.moves k.workers w c.args.region (mine_of me.0) c.requires.region)
          (claim_plan k.moves (slots k) (first_of_slot k) (moved_of k) c.shares_follow_the_state.ensures.moves k.workers w c.args.region me.1)),
    )
