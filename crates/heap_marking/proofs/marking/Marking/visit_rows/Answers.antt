use Rattle.std.proofs.Common.{◌+◌, ◌||◌, take, ap, sym, subst, arith, List, ℕ, ◌∙◌}
use Rattle.std.proofs.lemmas.List.{take_all}
use Rattle.std.specs.List.{list_any}
use Rattle.std.proofs.lemmas.List.Folds.{list_any_more}
use Rattle.object_heap.specs.HeapImage.{leads_to}
use Rattle.heap_marking.specs.Boxes.{arrives_anywhere}
use Rattle.heap_marking.specs.Marking.{IsGrown}
use Rattle.heap_marking.proofs.Lemmas.Growth.{grown_more, grown_as}
use Rattle.heap_marking.proofs.marking.Marking.visit_rows.Goals as goal

pub loop-boxes-preserved : goal.loop-boxes-preserved
loop-boxes-preserved c =
    let rows : List (List (List ℕ)) = c.args.rows.now in
    let i = c.loop-boxes.boxes-index in
    let row : List (List ℕ) = c.boxes-item.result in
    let before = c.loop-boxes.invariant in
    let first = c.args.self.now in
    let held = c.loop-boxes.self in
    let after = c.visit_boxes.new.self in
    let visited = c.in_ok-visit_boxes.ensures in
    let grown = subst (λ n. IsGrown n (λ b. list_any (λ references. list_any (λ w. leads_to w b) references) row) held.bits after.bits held.stack.items after.stack.items) before.words visited.growth.grown in
    record {
      grown = grown_more first.words (arrives_anywhere (take i rows)) (λ b. list_any (λ references. list_any (λ w. leads_to w b) references) row)
          (arrives_anywhere (take (i + 1) rows)) first.bits held.bits after.bits first.stack.items held.stack.items after.stack.items
          (λ b. list_any_more (λ boxes. list_any (λ references. list_any (λ w. leads_to w b) references) boxes) rows i row c.loop-boxes-test.true
          ∙ ap (λ xs. arrives_anywhere (take i rows) b || list_any (λ references. list_any (λ w. leads_to w b) references) xs) (sym c.boxes-item.is)) before.grown grown;
      well_formed = λ said. before.well_formed (visited.well_formed said);
      words = visited.growth.words ∙ before.words;
    }

pub returns-clause-growth : goal.returns-clause-growth
returns-clause-growth c =
    let rows : List (List (List ℕ)) = c.args.rows.now in
    let i = c.loop-boxes.boxes-index in
    let first = c.args.self.now in
    let held = c.loop-boxes.self in
    record {
      grown = grown_as first.words (arrives_anywhere (take i rows)) (arrives_anywhere rows) first.bits held.bits first.stack.items held.stack.items
          (λ b. ap (λ xs. arrives_anywhere xs b) (sym (take_all i rows (omega (arith, c.loop-boxes-test.false))))) c.loop-boxes.invariant.grown;
      words = c.loop-boxes.invariant.words;
    }
