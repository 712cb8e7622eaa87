use Rattle.std.proofs.Common.{◌≡◌, ◌+◌, ◌-◌, suc, zero, [], length, vec_len, arith, sym, ap, ◌∙◌, subst}
use Rattle.claim_board.specs.Boards.{ArePassesFrom, AllBare}
use Rattle.claim_board.proofs.Lemmas.Openings.{deals, dealt, dealt_one, new_pass, passes_push, bare_push}
use Rattle.claim_board.proofs.make.deal.Goals as goal

pub split_seat-one-requires : goal.split_seat-one-requires
split_seat-one-requires c = let i = c.loop.invariant in (i.0, c.requires.place.1, deals c.args.words.now.key c.loop.place.id c.loop.place.me.0)

pub loop-preserved : goal.loop-preserved
loop-preserved c =
    let i = c.loop.invariant in
    let s = c.split_seat-one.ensures in
    let p = c.push_reserved.ensures in
    let more : c.args.workers - c.loop.counter ≡ suc (c.args.workers - (c.loop.counter + 1)) = (let t = c.loop-test.true in omega arith) in
    let long : vec_len c.push_reserved.new.self ≡ vec_len c.loop.passes + 1 = (let z = p.len in omega arith) in
    let at : vec_len c.loop.passes ≡ 0 + length c.loop.passes.items = (let z = c.loop.passes.ok in omega arith) in (
      s.0 ∙ i.0,
      dealt (vec_len c.loop.passes) (vec_len c.push_reserved.new.self) (c.args.workers - c.loop.counter) (c.args.workers - (c.loop.counter + 1)) c.loop.place.me c.split_seat-one.new.seat.me s.2 i.1 long more,
      (let z = i.2 in omega arith),
      (let z = i.3 in let y = p.capacity in omega arith),
      subst (ArePassesFrom c.args.words.now.table_id 0) (sym p.items)
          (passes_push c.args.words.now.table_id 0 c.loop.passes.items _ (vec_len c.loop.passes) at i.4
          (new_pass c.args.words.now.table_id (vec_len c.loop.passes) c.split_seat-one.result.table_id c.split_seat-one.result.me.0 (s.3 ∙ i.0) (dealt_one (vec_len c.loop.passes) (c.args.workers - c.loop.counter) c.loop.place.me c.split_seat-one.result.me.0 (ap (λ m. m.0) s.4) i.1))),
      subst AllBare (sym p.items) (bare_push c.loop.passes.items _ i.5 (ap (λ m. m.1) s.4)),
    )

pub returns-clause-passes : goal.returns-clause-passes
returns-clause-passes c =
    let i = c.loop.invariant in
    let p = c.push_reserved-2.ensures in
    let last : c.loop.counter ≡ c.args.workers = (let t = c.loop-test.false in let e = c.loop.auto.counter-end in let pos = c.requires.place.2 in omega arith) in
    let none : c.args.workers - c.loop.counter ≡ zero = omega arith in
    let at : vec_len c.loop.passes ≡ 0 + length c.loop.passes.items = (let z = c.loop.passes.ok in omega arith) in (
      (let z = p.len in let y = i.2 in omega arith),
      subst (ArePassesFrom c.args.words.now.table_id 0) (sym p.items)
          (passes_push c.args.words.now.table_id 0 c.loop.passes.items _ (vec_len c.loop.passes) at i.4
          (new_pass c.args.words.now.table_id (vec_len c.loop.passes) c.loop.place.table_id c.loop.place.me.0 i.0 (ap (λ m. m.0) i.1 ∙ ap (λ n. record { note = []; holds = Rattle.claim_board.specs.Views.fresh (vec_len c.loop.passes) (suc n) }) none))),
    )

pub returns-clause-bare : goal.returns-clause-bare
returns-clause-bare c =
    let i = c.loop.invariant in
    subst AllBare (sym c.push_reserved-2.ensures.items) (bare_push c.loop.passes.items _ i.5 (ap (λ m. m.1) i.1))
