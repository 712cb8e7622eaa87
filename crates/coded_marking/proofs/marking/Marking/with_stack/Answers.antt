use Rattle.std.proofs.Common.{[], sym, ◌∙◌}
use Rattle.object_heap.specs.Bits.{has}
use Rattle.coded_marking.proofs.Lemmas.Listed.{filter_none}
use Rattle.coded_marking.proofs.Lemmas.Reached.{reachable_none}
use Rattle.coded_marking.proofs.marking.Marking.with_stack.Goals as goal

pub returns-clause-nothing : goal.returns-clause-nothing
returns-clause-nothing c =
    filter_none (has c.in_ok-tracing.tracing.marked) 0 c.in_ok-tracing.tracing.words (λ a _ _. c.in_ok-tracing.ensures.clear a)

pub returns-clause-reached : goal.returns-clause-reached
returns-clause-reached c = λ image are.
    let law = c.reachable_is_the_least_closed.ensures in
    filter_none (has c.in_ok-tracing.tracing.marked) 0 c.in_ok-tracing.tracing.words (λ a _ _. c.in_ok-tracing.ensures.clear a)
    ∙ sym (reachable_none image (law.least image []) (law.ascending image []))
