use Rattle.std.proofs.Common.{◌*◌, ◌^◌, ◌<◌, length, sym, ◌∙◌, ap, arith}
use Rattle.std.proofs.Math.Nat.{mod-eq_of_lt}
use Rattle.object_heap.specs.HeapImage.{heap_words}
use Rattle.object_heap.proofs.Lemmas.BlockWords.{length-concat}
use Rattle.object_heap.proofs.heap.Heap.len.Goals as goal

pub returns-clause-value : goal.returns-clause-value
returns-clause-value c =
    let heap = c.self.inside in
    let long = length-concat (2 ^ heap.region_log) heap.regions.now c.self.invariant.whole in
    let few = c.self.invariant.few in
    let small : length heap.regions.now * 2 ^ heap.region_log < 18446744073709551616 = omega arith in
    mod-eq_of_lt small ∙ sym long ∙ ap heap_words c.self.view_is
