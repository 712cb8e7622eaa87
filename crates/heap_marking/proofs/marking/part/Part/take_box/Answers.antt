use Rattle.std.proofs.Common.{◌+◌, ◌&&◌, ◌||◌, ◌∙◌, get_or, take, ap, sym, arith}
use Rattle.std.proofs.lemmas.List.{take_all}
use Rattle.std.specs.List.{list_any}
use Rattle.std.proofs.lemmas.List.Folds.{list_any_more}
use Rattle.object_heap.specs.HeapImage.{leads_to}
use Rattle.heap_marking.specs.Spread.{is_in}
use Rattle.heap_marking.specs.declared.marking.part.Part.{Part}
use Rattle.heap_marking.proofs.Lemmas.Spreads.{spread_more, spread_as, part_kept}
use Rattle.heap_marking.proofs.Lemmas.Running.{and_over, in_same}
use Rattle.heap_marking.proofs.marking.part.Part.take_box.Goals as goal

pub loop-reference-preserved : goal.loop-reference-preserved
loop-reference-preserved c =
    let log = c.args.log in
    let references = c.args.references.now in
    let i = c.loop-reference.reference-index in
    let w = get_or references i 0 in
    let p0 : Part = c.args.self.now in
    let p : Part = c.loop-reference.self in
    let p' : Part = c.take.new.self in
    let spread = c.in_ok-take.ensures.spread in
    let before = c.loop-reference.invariant in
    record {
      spread = spread_more log c.args.words (λ b. list_any (λ w. leads_to w b) (take i references) && is_in log p0 b) (λ b. leads_to w b && is_in log p b) (λ b. list_any (λ w. leads_to w b) (take (i + 1) references) && is_in log p0 b) p0 p p'
          (λ b. ap (λ t. t && is_in log p0 b) (list_any_more (λ w. leads_to w b) references i 0 c.loop-reference-test.true)
          ∙ and_over (list_any (λ w. leads_to w b) (take i references)) (leads_to w b) (is_in log p0 b)
          ∙ ap (λ t. (list_any (λ w. leads_to w b) (take i references) && is_in log p0 b) || (leads_to w b && t)) (sym (in_same log p0 p b before.spread.first)))
          before.spread spread;
      part = part_kept log c.args.words (λ b. leads_to w b && is_in log p b) p p' spread before.part;
      out = c.in_ok-take.ensures.out ∙ before.out;
      well_formed = c.in_ok-take.ensures.well_formed ∙ before.well_formed;
    }

pub returns : goal.returns
returns c =
    let references = c.args.references.now in
    let i = c.loop-reference.reference-index in
    let p0 : Part = c.args.self.now in
    record {
      spread = spread_as c.args.log c.args.words (λ b. list_any (λ w. leads_to w b) (take i references) && is_in c.args.log p0 b) (λ b. list_any (λ w. leads_to w b) references && is_in c.args.log p0 b) p0 c.loop-reference.self
          (λ b. ap (λ xs. list_any (λ w. leads_to w b) xs && is_in c.args.log p0 b) (sym (take_all i references (omega (arith, c.loop-reference-test.false))))) c.loop-reference.invariant.spread;
      out = c.loop-reference.invariant.out;
      well_formed = c.loop-reference.invariant.well_formed;
    }
