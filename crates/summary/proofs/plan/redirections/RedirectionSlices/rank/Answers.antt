use Rattle.std.proofs.Common.{◌≡◌, ℕ, ◌-◌, ◌<◌, true, ◌∙◌, ap, sym}
use Rattle.object_heap.specs.HeapImage.{HeapImage, is_live_word}
use Rattle.summary.proofs.Lemmas.Ranks.{least-counted}
use Rattle.summary.proofs.plan.redirections.RedirectionSlices.rank.Goals as goal

pub returns : goal.returns
returns c =
    let image : HeapImage = c.args.self.now in
    let least = least-counted image c.args.reference c.live_below.result c.requires.live c.live_below.ensures in
    c.min.ensures ∙ least
