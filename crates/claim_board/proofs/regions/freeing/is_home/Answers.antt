use Rattle.std.proofs.Common.{sym, ap, ◌∙◌, subst, arith}
use Rattle.std.specs.Mem.Slots.{slots_items}
use Rattle.std.proofs.lemmas.List.{get_or_default}
use Rattle.claim_board.specs.Homes.{is_claimed_word}
use Rattle.claim_board.specs.Places.{AreReaders}
use Rattle.claim_board.proofs.Lemmas.Homes.{home, not_true, word_at}
use Rattle.claim_board.proofs.regions.freeing.is_home.Goals as goal

pub returns : goal.returns
returns c = λ is m table places.
    let ws = slots_items c.args.closed.now.words in
    let r = c.args.region in
    let two = c.index.result.now in
    let are : AreReaders m r two = subst (AreReaders m r) (sym (c.index.ensures ∙ get_or_default c.args.places.now.readers.items r two (0, 0) c.requires.inside)) (places.readers_are r (let a = c.requires.inside in let b = places.readers_all in omega arith)) in
    home m ws r two are (ap is_claimed_word (word_at ws r c.word.result c.word.ensures) ∙ (sym c.is_claimed.ensures ∙ c.if-is_claimed.false)) (λ lt. sym (c.is_at_work.ensures m table places lt) ∙ c.if-is_at_work.false) (λ lt. sym (c.is_at_work-2.ensures m table places lt) ∙ not_true c.is_at_work-2.result is)
