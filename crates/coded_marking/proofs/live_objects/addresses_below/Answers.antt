use Rattle.std.proofs.Common.{◌∷◌, [], ◌++◌, ◌∙◌, sym, ap, arith}
use Rattle.coded_marking.proofs.Lemmas.Listed.{set_next, set_rest}
use Rattle.coded_marking.proofs.live_objects.addresses_below.Goals as goal

pub loop-a-preserved : goal.loop-a-preserved
loop-a-preserved c =
    let bits = c.args.bits.now in
    let a = c.in-Some.a in
    let found = c.in-Some.ensures in
    record {
      listed = c.in_ok-push.ensures.items ∙ ap (λ xs. xs ++ a ∷ []) c.loop-a.invariant.listed ∙ sym (set_next bits c.loop-a.from a found.first.behind found.first.passes found.first.least);
      low = let below = found.below in omega arith;
    }

pub returns : goal.returns
returns c =
    c.loop-a.invariant.listed ∙ set_rest c.args.bits.now c.loop-a.from c.args.words c.loop-a.invariant.low c.in_default.ensures
