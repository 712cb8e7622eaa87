use Rattle.std.proofs.Common.{◌≡◌, ◌∙◌, ◌<◌, ◌≤◌, ℕ, max, ap, ap₂, sym, subst, true, not, ◌==◌, slice_index_or, arith}
use Rattle.std.proofs.lemmas.Bool.{and_parts}
use Rattle.object_heap.specs.HeapImage.{HeapImage, HasLiveList}
use Rattle.summary.specs.RegionData.{data_words, first_target, last_target}
use Rattle.summary.specs.WordMoves.{reads}
use Rattle.work_order.specs.Chains.{IsLongestAfter}
use Rattle.work_order.proofs.Lemmas.Steps.{after-both, after-none, one-of-two, via}
use Rattle.work_order.proofs.chains.longest_after.Goals as goal

pub returns-in_default-clause-longest : goal.returns-in_default-clause-longest
returns-in_default-clause-longest c =
    let image : HeapImage = c.args.plan.now in
    let s = c.args.region in
    let list : HasLiveList image = c.targets_of.ensures.valid.live_list in
    let none : data_words image s ≡ 0 = c.in_default.ensures.some in
    after-none image s (λ d waits.
    let both = and_parts (reads image d s) (not (d == s)) waits in
    let some = (c.reads_by_destination.ensures.targets image list d s both.0).0 in
    omega arith)

pub returns-clause-longest : goal.returns-clause-longest
returns-clause-longest c =
    let image : HeapImage = c.args.plan.now in
    let s = c.args.region in
    let chains = c.args.chains.now in
    let list : HasLiveList image = c.targets_of.ensures.valid.live_list in
    let first = first_target image s in
    let last = last_target image s in
    let some : 0 < data_words image s = c.in-Some.ensures.some in
    let law = c.reads_by_destination.ensures in
    let ordered = law.ordered image list s some in
    let to_first = law.read image list first s some (omega arith) ordered.0 in
    let to_last = law.read image list last s some ordered.0 (omega arith) in
    let one = via image s first chains c.requires.below c.requires.all to_first (omega (arith, ordered.0, ordered.2)) in
    let other = via image s last chains c.requires.below c.requires.all to_last ordered.2 in
    let first_is = c.in-Some.ensures.first in
    let last_is = c.in-Some.ensures.last in
    let is : c.max.result ≡ max (slice_index_or chains first 0) (slice_index_or chains last 0) =
    c.max.ensures ∙ ap₂ max (c.chain_from.ensures ∙ ap (λ n. slice_index_or chains n 0) first_is) (c.chain_from-2.ensures ∙ ap (λ n. slice_index_or chains n 0) last_is) in
    let whole = after-both image s first last _ _ one other (λ d waits.
    let both = and_parts (reads image d s) (not (d == s)) waits in
    let at = law.targets image list d s both.0 in
    one-of-two image d first last at.1 at.2 ordered.1) in
    subst (λ n. IsLongestAfter image s n) (sym is) whole
