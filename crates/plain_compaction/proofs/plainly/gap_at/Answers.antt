use Rattle.std.proofs.Common.{◌≡◌, ℕ, ◌+◌, ◌*◌, ◌/◌, ◌≤◌, ◌<◌, min, ap, arith, ◌∙◌, subst, sym}
use Rattle.summary.specs.Fillers.{filler_limit}
use Rattle.plain_compaction.proofs.plainly.gap_at.Goals as goal

pub returns-then-is_live_word-clause-value : goal.returns-then-is_live_word-clause-value
returns-then-is_live_word-clause-value c =
    let p = c.args.p in
    let limit : c.filler_limit-end.result ≡ filler_limit c.args.image.now p = c.filler_limit-end.ensures.value ∙ ap (λ (n : ℕ). min n ((p / 2147483648 + 1) * 2147483648)) c.requires.prefix.exact in
    let low : p ≤ c.loop-q.q = c.loop-q.auto.q in
    let below : c.loop-q.q < c.filler_limit-end.result = c.loop-q-test.true in
    let inside : c.loop-q.q ≤ c.filler_limit-end.result = omega arith in
    sym (c.plan_laws.ensures.gap_at-run c.args.image.now p c.loop-q.q low (subst (λ n. c.loop-q.q ≤ n) limit inside) c.loop-q.invariant (λ _. sym c.is_live_word.ensures ∙ c.if-is_live_word.true))

pub returns-clause-value : goal.returns-clause-value
returns-clause-value c =
    let p = c.args.p in
    let end : ℕ = c.filler_limit-end.result in
    let limit : end ≡ filler_limit c.args.image.now p = c.filler_limit-end.ensures.value ∙ ap (λ (n : ℕ). min n ((p / 2147483648 + 1) * 2147483648)) c.requires.prefix.exact in
    let above : p < end = c.filler_limit-end.ensures.above c.requires.inside in
    let all = c.loop-q-test.false in
    let whole : end ≤ end = omega arith in
    sym (c.plan_laws.ensures.gap_at-run c.args.image.now p end (omega arith) (subst (λ n. end ≤ n) limit whole) (λ x l m. c.loop-q.invariant x l (omega arith)) (λ l. let no : end < end = subst (λ n. end < n) (sym limit) l in absurd (omega arith)))
