use Rattle.std.proofs.Common.{◌≡◌, ◌+◌, ◌∙◌, ◌&&◌, ap, sym, true, false}
use Rattle.std.specs.Prelude.{not}
use Rattle.object_heap.specs.HeapImage.{is_live_word}
use Rattle.object_heap.specs.Bits.{has}
use Rattle.mark_bitmap.specs.Marks.{continues_at, is_end}
use Rattle.mark_bitmap.proofs.Lemmas.Ends.{end-is}
use Rattle.mark_bitmap.proofs.marks.Marks.is_end.Goals as goal

pub returns-then-contains : goal.returns-then-contains
returns-then-contains c =
    let image = c.self.inside.image.value in
    let a = c.args.a in
    let live : is_live_word image a ≡ true = sym (c.self.invariant.bits.live_bits a) ∙ sym (c.contains.ensures ∙ ap (λ bits. has bits a) c.deref.ensures) ∙ c.if-contains.true in
    ap not (c.continues_at.ensures ∙ ap (λ i. continues_at i (a + 1)) (sym c.self.view_is))
    ∙ ap (λ b. b && not (continues_at image (a + 1))) (sym live)
    ∙ sym (end-is image c.self.invariant.valid a)
    ∙ ap (λ i. is_end i a) c.self.view_is

pub returns-else-contains : goal.returns-else-contains
returns-else-contains c =
    let image = c.self.inside.image.value in
    let a = c.args.a in
    let dead : is_live_word image a ≡ false = sym (c.self.invariant.bits.live_bits a) ∙ sym (c.contains.ensures ∙ ap (λ bits. has bits a) c.deref.ensures) ∙ c.if-contains.false in
    c.if-contains.false
    ∙ ap (λ b. b && not (continues_at image (a + 1))) (sym dead)
    ∙ sym (end-is image c.self.invariant.valid a)
    ∙ ap (λ i. is_end i a) c.self.view_is
