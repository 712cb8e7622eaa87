use Rattle.std.proofs.Common.{◌+◌, get_or, take, ◌∙◌, subst, ℕ, List}
use Rattle.std.proofs.lemmas.List.Folds.{list_any_more}
use Rattle.object_heap.specs.HeapImage.{leads_to}
use Rattle.object_heap.specs.Layout.{reference_in}
use Rattle.coded_marking.specs.Tracing.{Grows, leads_any}
use Rattle.coded_marking.proofs.Lemmas.Growth.{grows_more}
use Rattle.coded_marking.proofs.tracing.Tracing.visit_all.Goals as goal

pub loop-word-preserved : goal.loop-word-preserved
loop-word-preserved c =
    let layout = c.args.heap.now.layout in
    let words : List ℕ = c.args.words.now in
    let i : ℕ = c.loop-word.word-index in
    let before = c.loop-word.invariant in
    record {
      steady = c.visit.ensures.steady;
      grown = grows_more (leads_any layout (take i words)) (λ b. leads_to (reference_in layout (get_or words i 0)) b) (leads_any layout (take (i + 1) words)) c.args.self.now c.loop-word.self c.visit.new.self
          (λ b. list_any_more (λ w. leads_to (reference_in layout w) b) words i 0 c.loop-word-test.true) before.grown
          (subst (λ r. Grows (leads_to r) c.loop-word.self c.visit.new.self) c.reference.ensures.value c.visit.ensures.growth);
      followed = c.visit.ensures.followed ∙ before.followed;
    }
