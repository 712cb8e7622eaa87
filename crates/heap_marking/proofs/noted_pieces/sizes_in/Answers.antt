use Rattle.std.proofs.Common.{◌≡◌, ◌∙◌, subst, arith}
use Rattle.std.specs.Prelude.{Some}
use Rattle.std.proofs.lemmas.List.Elements.{All-pop}
use Rattle.object_heap.specs.HeapImage.{HeapImage}
use Rattle.heap_marking.specs.Soundness.{AreNoted}
use Rattle.heap_marking.proofs.noted_pieces.sizes_in.Goals as goal

pub loop-slot-init : goal.loop-slot-init
loop-slot-init c = record {
  count = let len = c.in-Ok.ensures.count in let few = c.len.ensures in let ok = c.args.slots.ok.0 in omega arith;
  noted = λ image all. (all, c.in-Ok.ensures.none image);
}

pub loop-slot-preserved : goal.loop-slot-preserved
loop-slot-preserved c =
    let l = c.loop-slot in
    let piece = c.into_inner.result in
    record {
      count = c.put_sizes.ensures.count ∙ l.invariant.count;
      noted = λ image all.
          let before = l.invariant.noted image all in
          let both = All-pop (λ (slot : HeapImage). slot ≡ image) l.slots.items c.pop.new.self.items (Some c.in-Some.slot) c.in-Some.ensures.items before.0 in
          (both.0, c.put_sizes.ensures.noted image (subst (λ (i : HeapImage). AreNoted i piece.number piece.sizes) both.1 c.into_inner.ensures) before.1);
    }
