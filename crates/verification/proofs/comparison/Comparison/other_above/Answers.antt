use Rattle.std.proofs.Common.{◌≡◌, ℕ, ◌+◌, ◌-◌, refl, sym, ap, subst, arith}
use Rattle.std.specs.Prelude.{Option, MatchOption}
use Rattle.object_heap.specs.HeapImage.{HeapImage, heap_words}
use Rattle.verification.specs.Compared.{AreCompacted, IsFirstOther}
use Rattle.verification.proofs.Lemmas.Joined.{alike_words, first_of_words}
use Rattle.verification.proofs.Lemmas.Placing.{zeros_above}
use Rattle.verification.proofs.comparison.Comparison.other_above.Goals as goal

pub returns-in_err-j : goal.returns-in_err-j
returns-in_err-j c =
    let before : HeapImage = c.args.self.now.before.now in
    let after : HeapImage = c.args.self.now.after.now in
    let top : ℕ = c.args.top in
    let n : ℕ = c.len.result - top in
    let end : heap_words before ≡ top + n = omega (arith, c.len.ensures.value, c.requires.inside) in
    let wanted = zeros_above before top n c.requires.above (ap (λ w. w - top) c.len.ensures.value) (c.compaction_by_objects.ensures.zeros before c.len.ensures.valid.live_list) in
    subst (λ (r : Option ℕ). MatchOption r (AreCompacted before after top (heap_words before)) (IsFirstOther before after top (heap_words before))) (sym c.from_residual.ensures)
    (alike_words before after (λ _. 0) top n (heap_words before) end wanted c.in_err-j.ensures)

pub returns : goal.returns
returns c =
    let before : HeapImage = c.args.self.now.before.now in
    let after : HeapImage = c.args.self.now.after.now in
    let top : ℕ = c.args.top in
    let n : ℕ = c.len.result - top in
    let end : heap_words before ≡ top + n = omega (arith, c.len.ensures.value, c.requires.inside) in
    let wanted = zeros_above before top n c.requires.above (ap (λ w. w - top) c.len.ensures.value) (c.compaction_by_objects.ensures.zeros before c.len.ensures.valid.live_list) in
    first_of_words before after (λ _. 0) top n (heap_words before) c.in_ok-j.j (top + c.in_ok-j.j) end refl wanted c.in_ok-j.ensures
