use Rattle.std.proofs.Common.{below_more, sym, ap, ◌∙◌, arith}
use Rattle.std.specs.Mem.Slots.{slots_items}
use Rattle.claim_board.specs.Homes.{is_claimed_word}
use Rattle.claim_board.proofs.Lemmas.Homes.{word_at}
use Rattle.claim_board.proofs.regions.taking_back.first_claimed.Goals as goal

pub returns-then-is_claimed-clause-some : goal.returns-then-is_claimed-clause-some
returns-then-is_claimed-clause-some c = (
  (let t = c.loop-region-test.true in let e = c.loop-region.auto.region-end in omega arith),
  ap is_claimed_word (word_at (slots_items c.args.closed.now.words) c.loop-region.region c.word.result c.word.ensures) ∙ (sym c.is_claimed.ensures ∙ c.if-is_claimed.true),
)

pub loop-region-preserved : goal.loop-region-preserved
loop-region-preserved c =
    below_more _ _ c.loop-region.invariant (ap is_claimed_word (word_at (slots_items c.args.closed.now.words) c.loop-region.region c.word.result c.word.ensures) ∙ (sym c.is_claimed.ensures ∙ c.if-is_claimed.false))
