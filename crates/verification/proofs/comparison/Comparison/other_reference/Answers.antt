use Rattle.std.proofs.Common.{◌≡◌, ℕ, ◌+◌, ◌<◌, refl, sym, ◌∙◌, ap, subst, arith}
use Rattle.object_heap.specs.HeapImage.{HeapImage, word_at, references_at}
use Rattle.summary.specs.Compaction.{redirected, compact}
use Rattle.verification.proofs.Lemmas.Joined.{single, joined, here}
use Rattle.verification.proofs.Lemmas.Placing.{reference_word}
use Rattle.verification.proofs.comparison.Comparison.other_reference.Goals as goal

inside : (p f n r : ℕ) → f < n → n ≡ r → p + 1 + f < p + 1 + r
inside p f n r l e = omega (arith, l, e)

pub returns-then-word-redirected : goal.returns-then-word-redirected
returns-then-word-redirected c =
    let before : HeapImage = c.args.self.now.before.now in
    let after : HeapImage = c.args.self.now.after.now in
    let a : ℕ = c.args.a in
    let place : ℕ = c.args.place in
    let f : ℕ = c.loop-f.f in
    let l : f < references_at before a = subst (λ n. f < n) c.references_at-f-end.ensures.value c.loop-f-test.true in
    here before after (place + 1) (place + 1 + references_at before a) (place + 1 + f) (omega arith) (inside place f (references_at before a) (references_at before a) l refl) c.loop-f.invariant
    (λ same. c.if-word-redirected.true (c.word.ensures ∙ same ∙ reference_word before a place c.requires f l ∙ ap (redirected before) (sym c.word-reference.ensures) ∙ ap (λ (i : HeapImage). redirected i c.word-reference.result) (sym (c.plan.ensures ∙ c.args.self.now.survey_of)) ∙ sym c.redirected.ensures))

pub loop-f-preserved : goal.loop-f-preserved
loop-f-preserved c =
    let before : HeapImage = c.args.self.now.before.now in
    let after : HeapImage = c.args.self.now.after.now in
    let a : ℕ = c.args.a in
    let place : ℕ = c.args.place in
    let f : ℕ = c.loop-f.f in
    let l : f < references_at before a = subst (λ n. f < n) c.references_at-f-end.ensures.value c.loop-f-test.true in
    let same : word_at after (place + 1 + f) ≡ word_at (compact before) (place + 1 + f) =
    sym c.word.ensures ∙ c.if-word-redirected.false ∙ c.redirected.ensures ∙ ap (λ (i : HeapImage). redirected i c.word-reference.result) (c.plan.ensures ∙ c.args.self.now.survey_of) ∙ ap (redirected before) c.word-reference.ensures ∙ sym (reference_word before a place c.requires f l) in
    joined before after (place + 1) (place + 1 + f) (place + 1 + (f + 1)) c.loop-f.invariant
    (single before after (place + 1 + f) (place + 1 + (f + 1)) (omega arith) same)
