use Rattle.std.proofs.Common.{◌∙◌}
use Rattle.object_heap.specs.Bits.{has}
use Rattle.object_heap.specs.HeapImage.{heap_words}
use Rattle.coded_marking.proofs.Lemmas.Underway.{underway_begins}
use Rattle.coded_marking.proofs.tracing.Tracing.trace.Goals as goal

pub returns-clause-underway : goal.returns-clause-underway
returns-clause-underway c =
    let image = c.args.heap.now in
    let old = c.args.self.now in
    let visited = c.visit_all.ensures in
    c.finish.ensures.goes_on c.args.roots.now (has old.marked)
    (underway_begins image c.args.roots.now (heap_words image) old c.visit_all.new.self (visited.growth.words ∙ c.requires.words) c.requires.steady visited.steady visited.followed visited.growth)
