use Rattle.object_heap.specs.declared.version.Version.TheVariants.{Three}
use Rattle.caller_heap.specs.HeapWords.{heap_bytes}
use Rattle.caller_heap.specs.Lent.{IsWhyLentKept, heap_in}
use Rattle.pcompact_c.proofs.Lemmas.Answered.{put_fault}
use Rattle.pcompact_c.proofs.collect.pcompact_collect_lent_rooted.Goals as goal

pub returns-clause-fault : goal.returns-clause-fault
returns-clause-fault c some =
    let why = IsWhyLentKept c.args.settings.region_log c.args.words.now (heap_bytes Three c.args.settings (heap_in c.args.words.now) c.args.roots.now) in
    put_fault c.collect_lent_words-done.result _ why c.put.new.self.fault c.put.result (λ x p. p.0) c.put.ensures.done c.collect_lent_words-done.ensures.fault some
