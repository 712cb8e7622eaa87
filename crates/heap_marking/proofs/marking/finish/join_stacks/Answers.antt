use Rattle.std.proofs.Common.{rules, ◌++◌, List, sym, ◌∙◌, ap, subst, arith}
use Rattle.heap_marking.specs.declared.marking.part.Part.{Part}
use Rattle.heap_marking.proofs.Lemmas.Finish.{AreStackedUp, stacked_none, stacked_more}
use Rattle.heap_marking.proofs.marking.finish.join_stacks.Goals as goal

pub loop-part-init : goal.loop-part-init
loop-part-init c = record {
  stacked = subst (AreStackedUp c.args.parts.now 0) (sym c.new-stack.ensures.items) (stacked_none c.args.parts.now);
}

pub loop-part-preserved : goal.loop-part-preserved
loop-part-preserved c =
    let parts : List Part = c.args.parts.now in
    let i = c.loop-part.part-index in
    let p : Part = c.part-item.result in
    let stack = c.loop-part.stack.items in
    record {
      stacked = stacked_more parts i p stack c.extend_from_slice.new.self.items c.loop-part-test.true c.part-item.is
          (c.in_ok-extend_from_slice.ensures.items ∙ ap (λ xs. stack ++ xs) c.as_slice.ensures.value) c.loop-part.invariant.stacked;
    }

pub returns : goal.returns
returns c = record {
  all = λ k d a l held. c.loop-part.invariant.stacked.all k d a (omega (arith, l, c.loop-part-test.false)) held;
  from = search rules;
}
