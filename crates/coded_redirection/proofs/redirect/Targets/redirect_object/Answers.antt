use Rattle.std.proofs.Common.{◌≡◌, ◌∙◌, ℕ, ◌+◌, ◌-◌, ◌≤◌, ◌<◌, inl, inr, true, false, sym, ap, arith, get_or, length}
use Rattle.std.proofs.lemmas.Bool.{cond-true, cond-false, cases_lt, false_from_ne_true}
use Rattle.object_heap.specs.HeapImage.{HeapImage, size_at}
use Rattle.object_heap.specs.Layout.{coded_references}
use Rattle.coded_redirection.specs.References.{is_reference_in, redirected_reference}
use Rattle.coded_redirection.proofs.Lemmas.Done.{parts, from_parts}
use Rattle.coded_redirection.proofs.redirect.Targets.redirect_object.Goals as goal

pub returns-clause-words : goal.returns-clause-words
returns-clause-words c i inside =
    let image = c.args.self.now.survey.now in
    let code = c.args.self.now.coding.now in
    let first = c.args.first in
    let a = c.args.a in
    let words = c.args.words.now in
    let old : ℕ = get_or words i 0 in
    let to : ℕ = redirected_reference image code c.args.self.now.dead old in
    let is = is_reference_in image code first words a (first + i) in
    let above = c.requires.above in
    let counted : c.references.result ≡ coded_references code (get_or words (a - first) 0) = c.references.ensures in
    let sized : c.size_at.result ≡ size_at image a = c.size_at.ensures ∙ ap (λ (i : HeapImage). size_at i a) c.marks.ensures in
    let own = c.saturating_sub-own.ensures in
    let fewer = c.min-count.ensures in
    let ends = c.min.ensures in
    let ended = c.loop-i-test.false in
    elim (cases_lt (a - first) i) [
      | inr upto ↦ c.loop-i.invariant.front i upto ∙ sym (cond-false is to old (false_from_ne_true is (λ h. let behind = (parts image code first words a (first + i) h).1 in omega (arith, behind, upto, above))))
      | inl behind ↦ elim (cases_lt i c.loop-i.i) [
        | inl before ↦
            let far = c.loop-i.invariant.far in
            c.loop-i.invariant.done i behind before
            ∙ ap (λ (h : HeapImage). redirected_reference h code c.args.self.now.dead old) c.requires.same
            ∙ sym (cond-true is to old (from_parts image code first words a (first + i) above (omega (arith, behind, above)) (omega (arith, before, far, ends, fewer, own, sized, above)) (omega (arith, before, far, ends, fewer, counted, above))))
        | inr after ↦ c.loop-i.invariant.rest i after
            ∙ sym (cond-false is to old (false_from_ne_true is (λ h.
            let read = parts image code first words a (first + i) h in
            let within = read.2 in
            let few = read.3 in
            omega (arith, after, ended, ends, fewer, own, sized, counted, within, few, inside, above))))
      ]
    ]
