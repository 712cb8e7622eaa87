use Rattle.std.proofs.Common.{◌+◌, ◌≤◌, get_or, take, leb, sym, ◌∙◌, subst}
use Rattle.std.specs.Prelude.{All}
use Rattle.std.proofs.lemmas.Bool.{and_parts, leb-true}
use Rattle.std.proofs.lemmas.List.{take_more}
use Rattle.std.proofs.lemmas.List.Elements.{All-push}
use Rattle.std.specs.List.{list_any}
use Rattle.std.proofs.lemmas.List.Folds.{list_any_more}
use Rattle.object_heap.specs.HeapImage.{leads_to}
use Rattle.heap_marking.specs.Marking.{IsGrown}
use Rattle.heap_marking.proofs.Lemmas.Growth.{grown_more}
use Rattle.heap_marking.proofs.marking.Marking.visit_all.Goals as goal

pub loop-reference-preserved : goal.loop-reference-preserved
loop-reference-preserved c =
    let references = c.args.references.now in
    let i = c.loop-reference.reference-index in
    let grown = subst (λ n. IsGrown n (leads_to (get_or references i 0)) c.loop-reference.self.bits c.visit.new.self.bits c.loop-reference.self.stack.items c.visit.new.self.stack.items) c.loop-reference.invariant.words c.in_ok-visit.ensures.growth.grown in
    record {
      grown = grown_more c.args.self.now.words (λ b. list_any (λ w. leads_to w b) (take i references)) (leads_to (get_or references i 0)) (λ b. list_any (λ w. leads_to w b) (take (i + 1) references)) c.args.self.now.bits c.loop-reference.self.bits c.visit.new.self.bits c.args.self.now.stack.items c.loop-reference.self.stack.items c.visit.new.self.stack.items
          (λ b. list_any_more (λ w. leads_to w b) references i 0 c.loop-reference-test.true) c.loop-reference.invariant.grown grown;
      inside = λ said.
          let both = and_parts c.loop-reference.inside (leb (get_or references i 0) c.loop-reference.self.words) said in
          let low : get_or references i 0 ≤ c.args.self.now.words = subst (λ n. get_or references i 0 ≤ n) c.loop-reference.invariant.words (leb-true (get_or references i 0) c.loop-reference.self.words both.1) in
          subst (All (λ w. w ≤ c.args.self.now.words)) (sym (take_more references i 0 c.loop-reference-test.true)) (All-push (λ w. w ≤ c.args.self.now.words) (take i references) (get_or references i 0) (c.loop-reference.invariant.inside both.0) low);
      well_formed = c.in_ok-visit.ensures.well_formed ∙ c.loop-reference.invariant.well_formed;
      words = c.in_ok-visit.ensures.growth.words ∙ c.loop-reference.invariant.words;
    }
