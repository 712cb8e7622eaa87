use Rattle.std.proofs.Common.{◌+◌, ◌*◌, ◌++◌, get_or, sym, ◌∙◌, ap, arith}
use Rattle.std.specs.Prelude.{map}
use Rattle.object_heap.specs.Bits.{ones_of}
use Rattle.heap_marking.proofs.Lemmas.Ones.{between-next}
use Rattle.heap_marking.proofs.live_list.marked_between.Goals as goal

pub loop-index-preserved : goal.loop-index-preserved
loop-index-preserved c =
    let words = c.args.words.now in
    let i = c.loop-index.index in
    let before = c.loop-index.invariant in
    record {
      listed = c.in_ok-push_ones.ensures ∙ ap (λ xs. xs ++ map (λ j. 64 * i + j) (ones_of (get_or words i 0))) before.listed ∙ sym (between-next words c.args.first i before.low);
      low = let low = before.low in omega arith;
    }
