use Rattle.object_pairs.specs.Conflicts.{conflicts_at}
use Rattle.object_pairs.proofs.Lemmas.Sums.{sum_more}
use Rattle.object_pairs.proofs.paired.Paired.conflicts.Goals as goal

pub loop-index-preserved : goal.loop-index-preserved
loop-index-preserved c =
    let paired = c.args.self.now in
    sum_more (conflicts_at c.args.kind paired.before.now paired.after.now paired.pairing.now.partners.items) c.loop-index.index _ c.loop-index.conflicts _
    c.conflicts_at.ensures c.loop-index.invariant c.saturating_add-conflicts.ensures
