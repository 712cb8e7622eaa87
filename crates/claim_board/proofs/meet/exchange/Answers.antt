use Rattle.std.proofs.Common.{ap, ◌∙◌, arith}
use Rattle.claim_board.proofs.Lemmas.Meets.{notes, informs}
use Rattle.claim_board.proofs.meet.exchange.Goals as goal

pub split_seat-from_a-requires : goal.split_seat-from_a-requires
split_seat-from_a-requires c =
    let t = c.args.words.now in
    (c.requires.boards.0, (let z = c.requires.size in omega arith), notes t.key c.args.a.now.place.id c.args.a.now.place.me.0)

pub join_seat-requires : goal.join_seat-requires
join_seat-requires c =
    let t = c.args.words.now in
    let s = c.split_seat-from_a.ensures in (
      c.requires.boards.1,
      s.3 ∙ c.requires.boards.0,
      ap (λ m. m.1) s.4,
      (let z = c.requires.size in omega arith),
      informs t.key c.args.b.now.place.id c.split_seat-from_a.result.id c.args.b.now.place.me.0 c.split_seat-from_a.result.me.0 (ap (λ m. m.0.holds) s.4),
    )

pub split_seat-from_b-requires : goal.split_seat-from_b-requires
split_seat-from_b-requires c =
    let t = c.args.words.now in
    (c.see.ensures.0 ∙ (c.join_seat.ensures.0 ∙ c.requires.boards.1), (let z = c.requires.size in omega arith), notes t.key c.see.new.seat.id c.see.new.seat.me.0)

pub join_seat-requires-2 : goal.join_seat-requires-2
join_seat-requires-2 c =
    let t = c.args.words.now in
    let s = c.split_seat-from_a.ensures in
    let u = c.split_seat-from_b.ensures in (
      s.0 ∙ c.requires.boards.0,
      u.3 ∙ (c.see.ensures.0 ∙ (c.join_seat.ensures.0 ∙ c.requires.boards.1)),
      ap (λ m. m.1) u.4,
      (let z = c.requires.size in omega arith),
      informs t.key c.split_seat-from_a.new.seat.id c.split_seat-from_b.result.id c.split_seat-from_a.new.seat.me.0 c.split_seat-from_b.result.me.0 (ap (λ m. m.0.holds) u.4),
    )
