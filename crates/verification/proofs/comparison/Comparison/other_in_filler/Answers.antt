use Rattle.std.proofs.Common.{◌≡◌, ℕ, ◌+◌, ◌-◌, ◌≤◌, ◌<◌, refl, sym, ◌∙◌, subst, arith}
use Rattle.std.specs.Prelude.{Option, MatchOption}
use Rattle.object_heap.specs.HeapImage.{HeapImage, word_at}
use Rattle.verification.specs.Compared.{AreCompacted, IsFirstOther}
use Rattle.verification.proofs.Lemmas.Joined.{none, single, joined, later, here, alike_words, first_of_words}
use Rattle.verification.proofs.Lemmas.Placing.{filler_first, filler_zeros}
use Rattle.verification.proofs.comparison.Comparison.other_in_filler.Goals as goal

apart : (a b : ℕ) → a ≤ b → (a ≡ b → ⊥) → a < b
apart a b l ne = omega (arith, l, ne)

pub returns-then-word-filler : goal.returns-then-word-filler
returns-then-word-filler c =
    let before : HeapImage = c.args.self.now.before.now in
    let after : HeapImage = c.args.self.now.after.now in
    let from : ℕ = c.args.from in
    let to : ℕ = c.args.to in
    let some : from < to = apart from to c.requires.ordered c.if-from-to.false in
    let run = c.fillers_by_runs.ensures.compacted_run before c.image_is_valid.ensures.live_list from to (c.requires.run some) in
    here before after from to from (omega arith) some (none before after from from (omega arith))
    (λ same. c.if-word-filler.true (c.word.ensures ∙ same ∙ filler_first before from to some run ∙ sym c.filler.ensures))

pub returns-in_err-j : goal.returns-in_err-j
returns-in_err-j c =
    let before : HeapImage = c.args.self.now.before.now in
    let after : HeapImage = c.args.self.now.after.now in
    let from : ℕ = c.args.from in
    let to : ℕ = c.args.to in
    let some : from < to = apart from to c.requires.ordered c.if-from-to.false in
    let run = c.fillers_by_runs.ensures.compacted_run before c.image_is_valid.ensures.live_list from to (c.requires.run some) in
    let header : word_at after from ≡ _ = sym c.word.ensures ∙ c.if-word-filler.false ∙ c.filler.ensures ∙ sym (filler_first before from to some run) in
    let end : to ≡ from + 1 + (to - from - 1) = omega (arith, some) in
    subst (λ (r : Option ℕ). MatchOption r (AreCompacted before after from to) (IsFirstOther before after from to)) (sym c.from_residual.ensures)
    (joined before after from (from + 1) to (single before after from (from + 1) refl header)
    (alike_words before after (λ _. 0) (from + 1) (to - from - 1) to end (filler_zeros before from to some run) c.in_err-j.ensures))

pub returns : goal.returns
returns c =
    let before : HeapImage = c.args.self.now.before.now in
    let after : HeapImage = c.args.self.now.after.now in
    let from : ℕ = c.args.from in
    let to : ℕ = c.args.to in
    let some : from < to = apart from to c.requires.ordered c.if-from-to.false in
    let run = c.fillers_by_runs.ensures.compacted_run before c.image_is_valid.ensures.live_list from to (c.requires.run some) in
    let header : word_at after from ≡ _ = sym c.word.ensures ∙ c.if-word-filler.false ∙ c.filler.ensures ∙ sym (filler_first before from to some run) in
    let end : to ≡ from + 1 + (to - from - 1) = omega (arith, some) in
    later before after from (from + 1) to to (from + 1 + c.in_ok-j.j) (omega arith) (omega arith) (single before after from (from + 1) refl header)
    (first_of_words before after (λ _. 0) (from + 1) (to - from - 1) to c.in_ok-j.j (from + 1 + c.in_ok-j.j) end refl (filler_zeros before from to some run) c.in_ok-j.ensures)
