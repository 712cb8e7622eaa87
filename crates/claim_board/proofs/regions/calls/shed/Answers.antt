use Rattle.std.proofs.Common.{[], ap, ◌∙◌, arith}
use Rattle.claim_board.proofs.Lemmas.Openings.{deals, all_of_it}
use Rattle.claim_board.proofs.regions.calls.shed.Goals as goal

pub split_seat-bare-requires : goal.split_seat-bare-requires
split_seat-bare-requires c = (c.requires.seat, (let z = c.requires.size in omega arith), deals c.args.words.now.key c.args.seat.now.id c.args.seat.now.me.0)

pub returns-clause-me : goal.returns-clause-me
returns-clause-me c = c.split_seat-bare.ensures.4 ∙ ap (λ v. (v, [])) (all_of_it c.args.seat.now.me.0 c.requires.pass)
