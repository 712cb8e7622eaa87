use Rattle.std.proofs.Common.{◌≡◌, ◌+◌, ◌-◌, ◌∙◌, ◌≤◌, ℕ, refl, ap, subst, arith}
use Rattle.std.specs.List.{list_any}
use Rattle.std.specs.Prelude.{IsTrue, All}
use Rattle.object_heap.specs.HeapImage.{heap_words, leads_to}
use Rattle.heap_marking.specs.Marking.{IsGrown}
use Rattle.heap_marking.proofs.Lemmas.Following.{references_are, unsound_is, followed_none, followed_row, followed_all, noted_row, noted_all}
use Rattle.heap_marking.proofs.marking.Marking.follow.Goals as goal

pub returns-then-is_unsound-clause-growth : goal.returns-then-is_unsound-clause-growth
returns-then-is_unsound-clause-growth c =
    record {
      grown = followed_none c.args.heap.now c.args.self.now.words c.args.object.address c.requires.words c.args.self.now.bits c.args.self.now.stack.items
          (unsound_is c.args.heap.now c.len.result c.args.object.address c.len.ensures.value c.args.object.header c.is_unsound.result c.own.ensures c.requires.header c.is_unsound.ensures ∙ c.if-is_unsound.true);
      words = refl;
    }

pub loop-next-preserved : goal.loop-next-preserved
loop-next-preserved c =
    let heap = c.args.heap.now in
    let a = c.args.object.address in
    let words = c.args.self.now.words in
    let next = c.loop-next.next in
    let before = c.loop-next.invariant in
    let row = c.row-row.result.now in
    let held = c.loop-next.self in
    let after = c.visit_all.new.self in
    let is = c.row-row.ensures.words in
    let grown = subst (λ k. IsGrown k (λ b. list_any (λ w. leads_to w b) row) held.bits after.bits held.stack.items after.stack.items) before.words c.in_ok-visit_all.ensures.growth.grown in
    let noted = subst (λ k. IsTrue after.well_formed → IsTrue held.well_formed × All (λ w. w ≤ k) row) before.words c.in_ok-visit_all.ensures.well_formed in
    record {
      grown = followed_row heap words a c.requires.words c.own.ensures next row c.args.self.now.bits held.bits after.bits c.args.self.now.stack.items held.stack.items after.stack.items before.low is before.grown grown;
      formed = noted_row heap words a c.requires.words c.own.ensures next row c.args.self.now.well_formed held.well_formed after.well_formed before.low is noted before.formed;
      low = let low = before.low in omega arith;
      high = c.row-row.ensures.within;
      words = c.in_ok-visit_all.ensures.growth.words ∙ before.words;
    }

-- all references were visited when the loop ends
all_visited : (a next count : ℕ) → next ≤ a + 1 + count → a + 1 + count ≤ next → next - (a + 1) ≡ count
all_visited a next count high low = omega arith

pub returns-clause-growth : goal.returns-clause-growth
returns-clause-growth c =
    let a = c.args.object.address in
    let next = c.loop-next.next in
    let sound = unsound_is c.args.heap.now c.len.result a c.len.ensures.value c.args.object.header c.is_unsound.result c.own.ensures c.requires.header c.is_unsound.ensures ∙ c.if-is_unsound.false in
    let test = c.loop-next-test.false in
    let count = all_visited a next c.from.result c.loop-next.invariant.high (omega arith) ∙ c.from.ensures ∙ c.references.ensures ∙ references_are c.args.heap.now (heap_words c.args.heap.now) c.args.object.address refl c.args.object.header c.own.ensures c.requires.header in
    record {
      grown = followed_all c.args.heap.now c.args.self.now.words a c.requires.words (next - (a + 1)) c.args.self.now.bits c.loop-next.self.bits c.args.self.now.stack.items c.loop-next.self.stack.items sound count c.loop-next.invariant.grown;
      words = c.loop-next.invariant.words;
    }

pub returns-clause-well_formed : goal.returns-clause-well_formed
returns-clause-well_formed c =
    let a = c.args.object.address in
    let next = c.loop-next.next in
    let sound = unsound_is c.args.heap.now c.len.result a c.len.ensures.value c.args.object.header c.is_unsound.result c.own.ensures c.requires.header c.is_unsound.ensures ∙ c.if-is_unsound.false in
    let test = c.loop-next-test.false in
    let count = all_visited a next c.from.result c.loop-next.invariant.high (omega arith) ∙ c.from.ensures ∙ c.references.ensures ∙ references_are c.args.heap.now (heap_words c.args.heap.now) c.args.object.address refl c.args.object.header c.own.ensures c.requires.header in
    noted_all c.args.heap.now c.args.self.now.words a c.requires.words (next - (a + 1)) c.args.self.now.well_formed c.loop-next.self.well_formed sound count c.loop-next.invariant.formed
