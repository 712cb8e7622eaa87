use Rattle.std.proofs.Common.{◌≡◌, ◌+◌, ◌-◌, ◌∙◌, ◌≤◌, ℕ, length, not, ◌&&◌, false, refl, sym, ap, subst, arith}
use Rattle.std.specs.Prelude.{All, IsTrue}
use Rattle.std.specs.List.{list_any}
use Rattle.object_heap.specs.HeapImage.{heap_words, is_unsound, references_at, refers_to, leads_to}
use Rattle.heap_marking.proofs.Lemmas.Following.{references_are, unsound_is, row_more, row_at, behind_row, first_fields, noted_row, noted_all}
use Rattle.heap_marking.specs.Spread.{IsSpread}
use Rattle.heap_marking.specs.declared.marking.part.Part.{Part}
use Rattle.heap_marking.proofs.Lemmas.Spreads.{spread_more, spread_as, spread_flag, part_kept}
use Rattle.heap_marking.proofs.Lemmas.Running.{spread_none}
use Rattle.heap_marking.proofs.marking.part.Part.follow.Goals as goal

pub returns-then-is_unsound-clause-spread : goal.returns-then-is_unsound-clause-spread
returns-then-is_unsound-clause-spread c =
    let heap = c.args.heap.now in
    let a = c.args.object.address in
    let p : Part = c.args.self.now in
    let bad = unsound_is heap c.len-words.result a c.len-words.ensures.value c.args.object.header c.is_unsound.result c.own.ensures c.requires.header c.is_unsound.ensures ∙ c.if-is_unsound.true in
    spread_flag c.args.log (heap_words heap) (refers_to heap a) p p _ (spread_none c.args.log heap a p bad)

pub loop-next-preserved : goal.loop-next-preserved
loop-next-preserved c =
    let heap = c.args.heap.now in
    let words = heap_words heap in
    let a = c.args.object.address in
    let next = c.loop-next.next in
    let before = c.loop-next.invariant in
    let row = c.row-row.result.now in
    let is = c.row-row.ensures.words in
    let p : Part = c.loop-next.self in
    let p' : Part = c.visit_all.new.self in
    let n : ℕ = next - (a + 1) in
    let spread : IsSpread c.args.log words (λ b. list_any (λ w. leads_to w b) row) p p' = subst (λ k. IsSpread c.args.log k (λ b. list_any (λ w. leads_to w b) row) p p') c.len-words.ensures.value c.in_ok-visit_all.ensures.spread in
    let noted = subst (λ k. IsTrue p'.well_formed → IsTrue p.well_formed × All (λ w. w ≤ k) row) c.len-words.ensures.value c.in_ok-visit_all.ensures.well_formed in
    record {
      spread = spread_more c.args.log words (first_fields heap words a refl n) (λ b. list_any (λ w. leads_to w b) row) (first_fields heap words a refl (next + length row - (a + 1))) c.args.self.now p p'
          (λ b. ap (λ k. first_fields heap words a refl k b) (sym (behind_row heap words a refl next (length row) before.low)) ∙ row_more heap words a refl n b row (row_at heap words a refl c.own.ensures next row before.low is))
          before.spread spread;
      part = part_kept c.args.log words (λ b. list_any (λ w. leads_to w b) row) p p' spread before.part;
      formed = noted_row heap words a refl c.own.ensures next row c.args.self.now.well_formed p.well_formed p'.well_formed before.low is noted before.formed;
      low = let low = before.low in omega arith;
      high = c.row-row.ensures.within;
    }

-- all references were visited when the loop ends
all_visited : (a next count : ℕ) → next ≤ a + 1 + count → a + 1 + count ≤ next → next - (a + 1) ≡ count
all_visited a next count high low = omega arith

pub returns-clause-spread : goal.returns-clause-spread
returns-clause-spread c =
    let heap = c.args.heap.now in
    let words = heap_words heap in
    let a = c.args.object.address in
    let next = c.loop-next.next in
    let sound : is_unsound heap a ≡ false = unsound_is heap c.len-words.result a c.len-words.ensures.value c.args.object.header c.is_unsound.result c.own.ensures c.requires.header c.is_unsound.ensures ∙ c.if-is_unsound.false in
    let test = c.loop-next-test.false in
    let count : next - (a + 1) ≡ references_at heap a = all_visited a next c.from.result c.loop-next.invariant.high (omega arith) ∙ c.from.ensures ∙ c.references.ensures ∙ references_are c.args.heap.now (heap_words c.args.heap.now) c.args.object.address refl c.args.object.header c.own.ensures c.requires.header in
    spread_as c.args.log words (first_fields heap words a refl (next - (a + 1))) (refers_to heap a) c.args.self.now c.loop-next.self
    (λ b. ap (λ t. not t && first_fields heap words a refl (references_at heap a) b) sound ∙ ap (λ m. first_fields heap words a refl m b) (sym count)) c.loop-next.invariant.spread

pub returns-clause-well_formed : goal.returns-clause-well_formed
returns-clause-well_formed c =
    let heap = c.args.heap.now in
    let words = heap_words heap in
    let a = c.args.object.address in
    let next = c.loop-next.next in
    let sound : is_unsound heap a ≡ false = unsound_is heap c.len-words.result a c.len-words.ensures.value c.args.object.header c.is_unsound.result c.own.ensures c.requires.header c.is_unsound.ensures ∙ c.if-is_unsound.false in
    let test = c.loop-next-test.false in
    let count : next - (a + 1) ≡ references_at heap a = all_visited a next c.from.result c.loop-next.invariant.high (omega arith) ∙ c.from.ensures ∙ c.references.ensures ∙ references_are c.args.heap.now (heap_words c.args.heap.now) c.args.object.address refl c.args.object.header c.own.ensures c.requires.header in
    noted_all heap words a refl (next - (a + 1)) c.args.self.now.well_formed c.loop-next.self.well_formed sound count c.loop-next.invariant.formed
