use Rattle.std.proofs.Common.{◌+◌, ◌-◌, ℕ, List, ltb, get_or, sym, ap, ◌∙◌, subst, arith}
use Rattle.object_heap.specs.HeapImage.{HeapImage, size_at}
use Rattle.mark_bitmap.specs.Marks.{IsFirstObject}
use Rattle.mark_bitmap.proofs.Lemmas.PartBits.{none-continues_at, last-continues_at}
use Rattle.mark_bitmap.proofs.objects.continues_at.Goals as goal

pub returns-then-first-eq0 : goal.returns-then-first-eq0
returns-then-first-eq0 c =
    sym (none-continues_at c.args.image.now c.live-objects.ensures.valid c.args.address (subst (λ i. IsFirstObject c.args.image.now c.args.address i) c.if-first-eq0.true c.first_from-first.ensures))

pub returns : goal.returns
returns c =
    let image : HeapImage = c.args.image.now in
    let i : ℕ = c.first_from-first.result in
    let live : List ℕ = c.live-objects.result.now in
    ap (λ n. ltb c.args.address (get_or live (i - 1) 0 + n)) (c.size_of.ensures.value ∙ ap (λ (l : List ℕ). size_at image (get_or l (i - 1) 0)) (sym c.live-objects.ensures.value))
    ∙ ap (λ (l : List ℕ). ltb c.args.address (get_or l (i - 1) 0 + size_at image (get_or l (i - 1) 0))) c.live-objects.ensures.value
    ∙ last-continues_at image c.live-objects.ensures.valid c.args.address i c.first_from-first.ensures (omega (arith, c.if-first-eq0.false))
