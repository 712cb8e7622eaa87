use Rattle.std.proofs.Common.{◌+◌, ◌/◌, length, ap, ◌∙◌}
use Rattle.std.proofs.lemmas.List.{length-replicate}
use Rattle.std.proofs.lemmas.Result.{IfOk-weaker}
use Rattle.std.specs.Prelude.{IsTrue}
use Rattle.heap_marking.specs.Marking.{AreReached, AreReachedWell, IsFinished}
use Rattle.heap_marking.proofs.Lemmas.MarkingSteps.{marking_begins, clear_bits}
use Rattle.heap_marking.proofs.marking.mark.Goals as goal

pub finish-requires : goal.finish-requires
finish-requires c =
    let words = c.len-words.result in
    let bits = c.in_ok-new.field-0 in
    let new = c.visit_all.new.self in
    let grown = c.in_ok-visit_all.ensures.growth in
    let begun-here = marking_begins c.args.heap.now c.args.roots.now words c.len-words.ensures.value (c.reachable_is_the_least_closed.ensures.closed c.args.heap.now c.args.roots.now) bits new.bits c.new-2.result.items new.stack.items new.well_formed c.new-2.ensures.items
    (ap length c.in_ok-new.ensures ∙ length-replicate (words / 64 + 1) 0) (clear_bits bits (words / 64 + 1) c.in_ok-new.ensures) grown.grown in
    (c.args.roots.now, record { words = grown.words ∙ c.len-words.ensures.value; marking = begun-here })

pub returns-clause-reached : goal.returns-clause-reached
returns-clause-reached c =
    let words = c.len-words.result in
    let bits = c.in_ok-new.field-0 in
    let new = c.visit_all.new.self in
    let grown = c.in_ok-visit_all.ensures.growth in
    let begun-here = marking_begins c.args.heap.now c.args.roots.now words c.len-words.ensures.value (c.reachable_is_the_least_closed.ensures.closed c.args.heap.now c.args.roots.now) bits new.bits c.new-2.result.items new.stack.items new.well_formed c.new-2.ensures.items
    (ap length c.in_ok-new.ensures ∙ length-replicate (words / 64 + 1) 0) (clear_bits bits (words / 64 + 1) c.in_ok-new.ensures) grown.grown in
    IfOk-weaker c.finish.result (IsFinished c.args.heap.now c.args.roots.now) (λ m. AreReached c.args.heap.now c.args.roots.now m.bits) (λ m done. done.reached)
    (c.finish.ensures c.args.roots.now (record { words = grown.words ∙ c.len-words.ensures.value; marking = begun-here }))

pub returns-clause-well_formed : goal.returns-clause-well_formed
returns-clause-well_formed c =
    let words = c.len-words.result in
    let bits = c.in_ok-new.field-0 in
    let new = c.visit_all.new.self in
    let grown = c.in_ok-visit_all.ensures.growth in
    let begun-here = marking_begins c.args.heap.now c.args.roots.now words c.len-words.ensures.value (c.reachable_is_the_least_closed.ensures.closed c.args.heap.now c.args.roots.now) bits new.bits c.new-2.result.items new.stack.items new.well_formed c.new-2.ensures.items
    (ap length c.in_ok-new.ensures ∙ length-replicate (words / 64 + 1) 0) (clear_bits bits (words / 64 + 1) c.in_ok-new.ensures) grown.grown in
    IfOk-weaker c.finish.result (IsFinished c.args.heap.now c.args.roots.now) (λ m. IsTrue m.well_formed → AreReachedWell c.args.heap.now c.args.roots.now) (λ m done. done.well_formed)
    (c.finish.ensures c.args.roots.now (record { words = grown.words ∙ c.len-words.ensures.value; marking = begun-here }))
