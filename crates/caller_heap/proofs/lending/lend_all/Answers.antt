use Rattle.std.proofs.Common.{inl, vec_len}
use Rattle.caller_heap.proofs.Lemmas.Lending.{all_back}
use Rattle.caller_heap.proofs.lending.lend_all.Goals as goal

pub returns-clause-back : goal.returns-clause-back
returns-clause-back c =
    let lent = c.lend_each.ensures in
    inl (all_back c.args.words.now c.lend_each.new.words c.keep_all.new.words c.lend_each.new.regions.items (vec_len c.lend_each.new.regions) lent.lent lent.held lent.rest c.in_ok-keep_all.ensures.kept)
