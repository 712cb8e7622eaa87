use Rattle.std.proofs.Common.{length, subst, sym, arith}
use Rattle.heap_marking.specs.Soundness.{AreAllNoted}
use Rattle.heap_marking.proofs.Lemmas.Pieces.{none_noted, one_more_piece}
use Rattle.heap_marking.proofs.noted_pieces.without_sizes.Goals as goal

pub loop-preserved : goal.loop-preserved
loop-preserved c =
    let sizes = c.loop.sizes.items in
    let i = c.loop.invariant in
    let count = i.count in
    let room = i.room in
    let len = c.push_reserved.ensures.len in
    let capacity = c.push_reserved.ensures.capacity in
    record {
      count = omega arith;
      room = omega arith;
      none = λ image. subst (AreAllNoted image) (sym c.push_reserved.ensures.items) (one_more_piece image sizes _ (i.none image) (none_noted image (length sizes)));
    }
