use Rattle.std.proofs.Common.{◌≡◌, ℕ, ◌+◌, ◌<◌, ◌≤◌, refl, sym, ◌∙◌, arith}
use Rattle.object_heap.specs.HeapImage.{HeapImage, word_at, references_at, size_at}
use Rattle.summary.specs.Compaction.{compact}
use Rattle.verification.specs.Compared.{AreCompacted, IsFirstOther}
use Rattle.verification.proofs.Lemmas.Joined.{match_map, none, single, joined, later, here}
use Rattle.verification.proofs.Lemmas.Placing.{header_word}
use Rattle.verification.proofs.comparison.Comparison.other_in_object.Goals as goal

references_end : (p r s : ℕ) → r < s → p + 1 + r ≤ p + s
references_end p r s l = omega (arith, l)

front : (p r : ℕ) → p ≤ p + 1 + r
front p r = omega arith

pub returns-then-word : goal.returns-then-word
returns-then-word c =
    let before : HeapImage = c.args.self.now.before.now in
    let after : HeapImage = c.args.self.now.after.now in
    let place : ℕ = c.args.place in
    let inside : (s : ℕ) → 0 < s → place < place + s = λ s h. omega (arith, h) in
    here before after place (place + size_at before c.args.a) place (omega arith) (inside (size_at before c.args.a) c.requires.sound.header) (none before after place place (omega arith))
    (λ same. c.if-word.true (c.word.ensures ∙ same ∙ header_word before c.args.a place c.requires ∙ sym c.word-2.ensures))

pub returns-in-Some : goal.returns-in-Some
returns-in-Some c =
    let before : HeapImage = c.args.self.now.before.now in
    let after : HeapImage = c.args.self.now.after.now in
    let a : ℕ = c.args.a in
    let place : ℕ = c.args.place in
    let header : word_at after place ≡ word_at (compact before) place = sym c.word.ensures ∙ c.if-word.false ∙ c.word-2.ensures ∙ sym (header_word before a place c.requires) in
    later before after place (place + 1) (place + 1 + references_at before a) (place + size_at before a) c.in-Some.p (omega arith) (references_end place (references_at before a) (size_at before a) c.requires.sound.references)
    (single before after place (place + 1) refl header) c.in-Some.ensures

pub returns : goal.returns
returns c =
    let before : HeapImage = c.args.self.now.before.now in
    let after : HeapImage = c.args.self.now.after.now in
    let a : ℕ = c.args.a in
    let place : ℕ = c.args.place in
    let mid : ℕ = place + 1 + references_at before a in
    let end : ℕ = place + size_at before a in
    let header : word_at after place ≡ word_at (compact before) place = sym c.word.ensures ∙ c.if-word.false ∙ c.word-2.ensures ∙ sym (header_word before a place c.requires) in
    let done : AreCompacted before after place mid = joined before after place (place + 1) mid (single before after place (place + 1) refl header) c.in_default.ensures in
    match_map c.other_data.result (AreCompacted before after mid end) (AreCompacted before after place end) (IsFirstOther before after mid end) (IsFirstOther before after place end)
    (λ rest. joined before after place mid end done rest)
    (λ p first. later before after place mid end end p (front place (references_at before a)) (omega arith) done first)
    c.other_data.ensures
