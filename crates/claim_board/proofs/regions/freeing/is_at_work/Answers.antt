use Rattle.std.proofs.Common.{ℕ, sym, ap, ◌∙◌}
use Rattle.std.specs.Prelude.{◌==◌}
use Rattle.std.specs.Mem.Slots.{slots_items}
use Rattle.claim_board.proofs.Lemmas.Homes.{word_at}
use Rattle.claim_board.proofs.regions.freeing.is_at_work.Goals as goal

pub returns-then-pair-places : goal.returns-then-pair-places
returns-then-pair-places c = λ m table places lt.
    let ws = slots_items c.args.closed.now.words in
    ap (λ (n : ℕ). n == 8) (sym (word_at ws c.destination_of.result c.word.result c.word.ensures) ∙ ap (λ i. Rattle.std.specs.Prelude.slice_index ws i) (c.destination_of.ensures m table places lt))
