use Rattle.std.proofs.Common.{◌≡◌, ℕ, ◌+◌, ◌-◌, List, sym, ◌∙◌, ap, arith}
use Rattle.object_heap.specs.HeapImage.{HeapImage}
use Rattle.verification.specs.Compared.{behind, new_ends}
use Rattle.verification.proofs.Lemmas.Gaps.{behind-zero, behind-next}
use Rattle.verification.proofs.Lemmas.Placing.{place_of, end_of_place}
use Rattle.verification.proofs.comparison.Comparison.end_before.Goals as goal

pub returns-then-i-eq0 : goal.returns-then-i-eq0
returns-then-i-eq0 c =
    let ends = new_ends c.args.self.now.before.now in
    sym (ap (behind ends) c.if-i-eq0.true ∙ behind-zero ends)

pub returns : goal.returns
returns c =
    let image : HeapImage = c.args.self.now.before.now in
    let items : List ℕ = c.live.result.now in
    let i : ℕ = c.args.i - 1 in
    let place : ℕ = c.new_address-place.result in
    let next : c.args.i ≡ i + 1 = omega (arith, c.if-i-eq0.false) in
    let is = place_of image c.plan.result.now items i place (c.plan.ensures ∙ c.args.self.now.survey_of) c.live.ensures.value c.new_address-place.ensures in
    end_of_place image items i place c.size_at.result c.live.ensures.value is c.size_at.ensures.value ∙ sym (behind-next (new_ends image) i c.args.i next)
