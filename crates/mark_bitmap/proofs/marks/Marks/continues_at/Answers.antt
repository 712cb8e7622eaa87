use Rattle.std.proofs.Common.{◌≡◌, ◌∙◌, ◌&&◌, ap, sym, true, false}
use Rattle.std.specs.Prelude.{not}
use Rattle.object_heap.specs.HeapImage.{is_live_word}
use Rattle.object_heap.specs.Bits.{has}
use Rattle.mark_bitmap.specs.Marks.{continues_at, is_begin}
use Rattle.mark_bitmap.proofs.Lemmas.Ends.{continues_at-is}
use Rattle.mark_bitmap.proofs.marks.Marks.continues_at.Goals as goal

pub returns-then-contains : goal.returns-then-contains
returns-then-contains c =
    let image = c.self.inside.image.value in
    let a = c.args.a in
    let live : is_live_word image a ≡ true = sym (c.self.invariant.bits.live_bits a) ∙ sym (c.contains.ensures ∙ ap (λ bits. has bits a) c.deref.ensures) ∙ c.if-contains.true in
    ap not (c.is_begin.ensures ∙ ap (λ i. is_begin i a) (sym c.self.view_is))
    ∙ ap (λ b. b && not (is_begin image a)) (sym live)
    ∙ sym (continues_at-is image c.self.invariant.valid a)
    ∙ ap (λ i. continues_at i a) c.self.view_is

pub returns-else-contains : goal.returns-else-contains
returns-else-contains c =
    let image = c.self.inside.image.value in
    let a = c.args.a in
    let dead : is_live_word image a ≡ false = sym (c.self.invariant.bits.live_bits a) ∙ sym (c.contains.ensures ∙ ap (λ bits. has bits a) c.deref.ensures) ∙ c.if-contains.false in
    c.if-contains.false
    ∙ ap (λ b. b && not (is_begin image a)) (sym dead)
    ∙ sym (continues_at-is image c.self.invariant.valid a)
    ∙ ap (λ i. continues_at i a) c.self.view_is
