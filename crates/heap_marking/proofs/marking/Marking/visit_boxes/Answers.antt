use Rattle.std.proofs.Common.{◌+◌, ◌<◌, [], get_or, take, ap, sym, subst, arith, length, List, ℕ, ◌∙◌}
use Rattle.std.proofs.lemmas.List.{take_all}
use Rattle.std.specs.List.{list_any}
use Rattle.std.proofs.lemmas.List.Folds.{list_any_more}
use Rattle.object_heap.specs.HeapImage.{leads_to}
use Rattle.heap_marking.specs.Marking.{IsGrown}
use Rattle.heap_marking.proofs.Lemmas.Growth.{grown_more, grown_as}
use Rattle.heap_marking.proofs.marking.Marking.visit_boxes.Goals as goal

pub loop-k-preserved : goal.loop-k-preserved
loop-k-preserved c =
    let boxes : List (List ℕ) = c.args.boxes.now in
    let k = c.loop-k.k in
    let before = c.loop-k.invariant in
    let first = c.args.self.now in
    let held = c.loop-k.self in
    let after = c.visit_all.new.self in
    let visited = c.in_ok-visit_all.ensures in
    let low : k < length boxes = omega (arith, c.loop-k-test.true, c.len-k-end.ensures) in
    let grown = subst (λ xs. IsGrown first.words (λ b. list_any (λ w. leads_to w b) xs) held.bits after.bits held.stack.items after.stack.items) c.get.ensures
    (subst (λ n. IsGrown n (λ b. list_any (λ w. leads_to w b) c.get.result.now) held.bits after.bits held.stack.items after.stack.items) before.words visited.growth.grown) in
    record {
      grown = grown_more first.words (λ b. list_any (λ references. list_any (λ w. leads_to w b) references) (take k boxes)) (λ b. list_any (λ w. leads_to w b) (get_or boxes k []))
          (λ b. list_any (λ references. list_any (λ w. leads_to w b) references) (take (k + 1) boxes)) first.bits held.bits after.bits first.stack.items held.stack.items after.stack.items
          (λ b. list_any_more (λ references. list_any (λ w. leads_to w b) references) boxes k [] low) before.grown grown;
      well_formed = λ said. before.well_formed (visited.well_formed said).0;
      words = visited.growth.words ∙ before.words;
    }

pub returns-clause-growth : goal.returns-clause-growth
returns-clause-growth c =
    let boxes : List (List ℕ) = c.args.boxes.now in
    let k = c.loop-k.k in
    let first = c.args.self.now in
    let held = c.loop-k.self in
    record {
      grown = grown_as first.words (λ b. list_any (λ references. list_any (λ w. leads_to w b) references) (take k boxes)) (λ b. list_any (λ references. list_any (λ w. leads_to w b) references) boxes) first.bits held.bits first.stack.items held.stack.items
          (λ b. ap (list_any (λ references. list_any (λ w. leads_to w b) references)) (sym (take_all k boxes (omega (arith, c.loop-k-test.false, c.len-k-end.ensures))))) c.loop-k.invariant.grown;
      words = c.loop-k.invariant.words;
    }
