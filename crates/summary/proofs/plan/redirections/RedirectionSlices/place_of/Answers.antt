use Rattle.std.proofs.Common.{◌≡◌, ◌∙◌, true, sym, subst, arith}
use Rattle.object_heap.specs.HeapImage.{IsValid, is_live_word}
use Rattle.summary.proofs.Lemmas.Ranks.{least-slid}
use Rattle.summary.proofs.Lemmas.Words.{live_below}
use Rattle.summary.proofs.plan.redirections.RedirectionSlices.place_of.Goals as goal

pub live_below-requires : goal.live_below-requires
live_below-requires c =
    let valid : IsValid c.args.self.now = subst IsValid c.self.view_is c.self.invariant.valid in
    let inside = live_below c.args.self.now valid.live_list c.args.q (sym c.is_live.ensures ∙ c.if-not-is_live.false) in
    omega arith

pub returns : goal.returns
returns c = (sym c.is_live.ensures ∙ c.if-not-is_live.false, c.min.ensures ∙ least-slid c.args.self.now c.args.q c.live_below.result c.live_below.ensures)
