use Rattle.std.proofs.Common.{◌≡◌, ℕ, zero, suc, ◌+◌, ◌<◌, ◌≤◌, List, length, ap, sym, subst, ◌∙◌, arith}
use Rattle.object_heap.specs.HeapImage.{HeapImage, heap_words}
use Rattle.summary.specs.LiveObjects.{object_count}
use Rattle.summary.specs.NewAddresses.{new_top}
use Rattle.verification.specs.Compared.{AreCompacted, IsObjectCompacted, IsFirstOther, AreKnown, behind, new_ends}
use Rattle.verification.proofs.Lemmas.Gaps.{behind-zero, behind-next}
use Rattle.verification.proofs.Lemmas.Joined.{none, joined, later, match_map}
use Rattle.verification.proofs.Lemmas.Placing.{top_reached, end_inside}
use Rattle.verification.proofs.comparison.Comparison.other_word.Goals as goal

module _ (before after : HeapImage) where
  -- the words up to the end of the i-th object
  behind_all : (i : ℕ) → ((k : ℕ) → k < i → IsObjectCompacted before after k) → AreCompacted before after 0 (behind (new_ends before) i)
  behind_all zero each = subst (AreCompacted before after 0) (sym (behind-zero (new_ends before))) (none before after 0 0 (omega arith))
  behind_all (suc i) each =
      let next : i + 1 ≡ suc i = omega arith in
      joined before after 0 (behind (new_ends before) i) (behind (new_ends before) (suc i)) (behind_all i (λ k l. each k (omega (arith, l))))
      (subst (λ n. AreCompacted before after (behind (new_ends before) i) (behind (new_ends before) n)) next (each i (omega arith)))

  -- an object lies in the heap
  ends_inside : AreKnown before → (i : ℕ) → i < object_count before → behind (new_ends before) (i + 1) ≤ heap_words before
  ends_inside known i l =
      let is = behind-next (new_ends before) i (i + 1) (omega arith) in
      let below = known.below i l in
      let top = known.top in
      omega (arith, is, below, top)

pub returns-in-Some : goal.returns-in-Some
returns-in-Some g c =
    let before = c.args.self.now.before.now in
    let after = c.args.self.now.after.now in
    let first = c.in-Some.ensures in
    let i : ℕ = c.in-Some.i in
    let from : ℕ = behind (new_ends before) i in
    let to : ℕ = behind (new_ends before) (i + 1) in
    match_map c.other_at.result (IsObjectCompacted before after i) (AreCompacted before after 0 (heap_words before))
    (IsFirstOther before after from to) (IsFirstOther before after 0 (heap_words before))
    (λ same. absurd (first.fails same))
    (λ p other. later before after 0 from to (heap_words before) p (omega arith) (ends_inside before after c.objects_are_placed.ensures i first.inside)
    (behind_all before after i (λ k l. first.before k (omega arith) l)) other)
    c.other_at.ensures

pub other_above-requires-clause-above : goal.other_above-requires-clause-above
other_above-requires-clause-above g c =
    let before = c.args.self.now.before.now in
    subst (λ n. new_top before ≤ n) (sym (c.end_before.ensures ∙ ap (λ (l : List ℕ). behind (new_ends before) (length l)) c.live.ensures.value)) (top_reached before c.objects_are_placed.ensures)

pub other_above-requires-clause-inside : goal.other_above-requires-clause-inside
other_above-requires-clause-inside g c =
    let before = c.args.self.now.before.now in
    subst (λ n. n ≤ heap_words before) (sym (c.end_before.ensures ∙ ap (λ (l : List ℕ). behind (new_ends before) (length l)) c.live.ensures.value)) (end_inside before c.objects_are_placed.ensures)

pub returns-in-None : goal.returns-in-None
returns-in-None g c =
    let before = c.args.self.now.before.now in
    let after = c.args.self.now.after.now in
    let n = length c.live.result.now in
    let count : n ≡ object_count before = ap length c.live.ensures.value in
    let next : ℕ = c.end_before.result in
    let low = subst (AreCompacted before after 0) (sym c.end_before.ensures) (behind_all before after n (λ k l. c.in-None.ensures k (omega arith) (subst (λ m. k < m) count l))) in
    match_map c.other_above.result (AreCompacted before after next (heap_words before)) (AreCompacted before after 0 (heap_words before))
    (IsFirstOther before after next (heap_words before)) (IsFirstOther before after 0 (heap_words before))
    (joined before after 0 next (heap_words before) low)
    (λ p other. later before after 0 next (heap_words before) (heap_words before) p (omega arith) (omega arith) low other)
    c.other_above.ensures
