use Rattle.std.proofs.Common.{◌+◌, ◌≤◌, get_or, take, leb, ap, sym, ◌∙◌, subst, arith}
use Rattle.std.specs.Prelude.{All}
use Rattle.std.proofs.lemmas.Bool.{and_parts, leb-true}
use Rattle.std.proofs.lemmas.List.{take_all, take_more}
use Rattle.std.proofs.lemmas.List.Elements.{All-push}
use Rattle.std.specs.List.{list_any}
use Rattle.std.proofs.lemmas.List.Folds.{list_any_more}
use Rattle.object_heap.specs.HeapImage.{leads_to}
use Rattle.heap_marking.specs.declared.marking.part.Part.{Part}
use Rattle.heap_marking.proofs.Lemmas.Spreads.{spread_more, spread_as, spread_flag, part_kept}
use Rattle.heap_marking.proofs.marking.part.Part.visit_all.Goals as goal

pub loop-reference-preserved : goal.loop-reference-preserved
loop-reference-preserved c =
    let references = c.args.references.now in
    let i = c.loop-reference.reference-index in
    let words = c.args.words in
    let p : Part = c.loop-reference.self in
    let p' : Part = c.visit.new.self in
    let before = c.loop-reference.invariant in
    let spread = c.in_ok-visit.ensures.spread in
    record {
      spread = spread_more c.args.log words (λ b. list_any (λ w. leads_to w b) (take i references)) (leads_to (get_or references i 0)) (λ b. list_any (λ w. leads_to w b) (take (i + 1) references)) c.args.self.now p p'
          (λ b. list_any_more (λ w. leads_to w b) references i 0 c.loop-reference-test.true) before.spread spread;
      part = part_kept c.args.log words (leads_to (get_or references i 0)) p p' spread before.part;
      inside = λ said.
          let both = and_parts c.loop-reference.inside (leb (get_or references i 0) words) said in
          subst (All (λ w. w ≤ words)) (sym (take_more references i 0 c.loop-reference-test.true)) (All-push (λ w. w ≤ words) (take i references) (get_or references i 0) (before.inside both.0) (leb-true (get_or references i 0) words both.1));
      well_formed = c.in_ok-visit.ensures.well_formed ∙ before.well_formed;
    }

pub returns-clause-spread : goal.returns-clause-spread
returns-clause-spread c =
    let references = c.args.references.now in
    let i = c.loop-reference.reference-index in
    let p : Part = c.loop-reference.self in
    spread_flag c.args.log c.args.words (λ b. list_any (λ w. leads_to w b) references) c.args.self.now p _
    (spread_as c.args.log c.args.words (λ b. list_any (λ w. leads_to w b) (take i references)) (λ b. list_any (λ w. leads_to w b) references) c.args.self.now p
    (λ b. ap (list_any (λ w. leads_to w b)) (sym (take_all i references (omega (arith, c.loop-reference-test.false))))) c.loop-reference.invariant.spread)
