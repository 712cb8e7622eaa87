use Rattle.std.proofs.Common.{◌≡◌, ℕ, inl, inr, List, get_or, sym, ◌∙◌, ap, subst, arith}
use Rattle.std.proofs.lemmas.Bool.{cases_lt, true≢false}
use Rattle.object_heap.specs.HeapImage.{HeapImage}
use Rattle.summary.specs.NewAddresses.{new_address}
use Rattle.verification.specs.Compared.{IsPlaced}
use Rattle.verification.specs.Explanation.{IsNeighbour}
use Rattle.verification.proofs.Lemmas.Visits.{placed_object}
use Rattle.verification.proofs.comparison_explained.WordComparison.neighbour.Goals as goal

pub is_neighbour-requires-clause-placed : goal.is_neighbour-requires-clause-placed
is_neighbour-requires-clause-placed c =
    let image : HeapImage = c.args.self.now.before.now in
    let items : List ℕ = c.live-a-items.result.now in
    let i : ℕ = c.loop-a.a-index in
    let goes = c.moved-other.ensures.moved.goes ∙ ap (new_address image) (c.moved-other.ensures.old ∙ ap (λ (xs : List ℕ). get_or xs i 0) c.live-a-items.ensures.value) in
    subst (λ a. IsPlaced image a c.moved-other.result.new) (sym c.moved-other.ensures.old)
    (placed_object image c.objects_are_placed.ensures items i c.moved-other.result.new c.live-a-items.ensures.value c.loop-a-test.true goes)

pub returns-then-is_neighbour : goal.returns-then-is_neighbour
returns-then-is_neighbour c = (c.moved-other.ensures.moved, c.is_neighbour.ensures.yes c.if-is_neighbour.true)

pub loop-a-preserved : goal.loop-a-preserved
loop-a-preserved c = λ i l. elim (cases_lt i c.loop-a.a-index) [
  | inl lower ↦ c.loop-a.invariant i lower
  | inr high ↦
      let image : HeapImage = c.args.self.now.before.now in
      let items : List ℕ = c.live-a-items.result.now in
      let here : i ≡ c.loop-a.a-index = omega (arith, l, high) in
      let is = c.moved-other.ensures.old ∙ ap (λ (xs : List ℕ). get_or xs c.loop-a.a-index 0) c.live-a-items.ensures.value in
      λ neighbour. true≢false (sym (c.is_neighbour.ensures.no
      (subst (λ a. IsNeighbour image c.args.moved c.args.index c.args.word a) (sym is)
      (subst (λ k. IsNeighbour image c.args.moved c.args.index c.args.word (get_or image.live k 0)) here neighbour))) ∙ c.if-is_neighbour.false)
]
