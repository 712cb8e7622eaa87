use Rattle.std.proofs.Common.{cond, ◌∙◌, ap}
use Rattle.object_pairs.specs.Conflicts.{changed_at}
use Rattle.object_pairs.proofs.Lemmas.Sums.{sum_more}
use Rattle.object_pairs.proofs.paired.Paired.changed.Goals as goal

pub loop-index-preserved : goal.loop-index-preserved
loop-index-preserved c =
    let paired = c.args.self.now in
    sum_more (λ i. cond (changed_at paired.before.now.objects.items paired.after.now.objects.items paired.pairing.now.partners.items i) 1 0) c.loop-index.index _
    c.loop-index.changed _ (c.one_if.ensures ∙ ap (λ b. cond b 1 0) c.is_changed.ensures) c.loop-index.invariant c.saturating_add-changed.ensures
