use Rattle.std.proofs.Common.{◌+◌, ◌*◌, ◌++◌, length, get_or, sym, ◌∙◌, ap, arith}
use Rattle.std.specs.Prelude.{map}
use Rattle.object_heap.specs.Bits.{ones_of}
use Rattle.heap_marking.proofs.Lemmas.Ones.{between-next, between-room, more-between}
use Rattle.heap_marking.proofs.live_list.write_between.Goals as goal

pub write_ones-next-requires-clause-room : goal.write_ones-next-requires-clause-room
write_ones-next-requires-clause-room c =
    let before = c.loop-index.invariant in
    let inside = c.loop-index-test.true in
    between-room c.args.words.now c.args.first c.loop-index.index c.args.last c.loop-index.next (length c.loop-index.list) before.low (omega arith) before.next (before.room ∙ c.requires.room)

pub loop-index-preserved : goal.loop-index-preserved
loop-index-preserved c =
    let words = c.args.words.now in
    let i = c.loop-index.index in
    let before = c.loop-index.invariant in
    record {
      room = c.write_ones-next.ensures.room ∙ before.room;
      next = c.write_ones-next.ensures.next ∙ more-between words c.args.first i c.loop-index.next before.low before.next;
      written = c.write_ones-next.ensures.written ∙ ap (λ xs. xs ++ map (λ j. 64 * i + j) (ones_of (get_or words i 0))) before.written ∙ sym (between-next words c.args.first i before.low);
      low = let low = before.low in omega arith;
    }
