use Rattle.std.proofs.Common.{◌≡◌, ◌<◌, ◌≤◌, ◌+◌, ◌-◌, ℕ, true, inl, inr, get_or, length, subst, ◌∙◌, sym, ap, arith}
use Rattle.std.proofs.lemmas.Bool.{cases_lt}
use Rattle.object_heap.specs.Bits.{has}
use Rattle.object_heap.specs.HeapImage.{heap_words, word_at}
use Rattle.heap_marking.proofs.soundness.are_words_marked.Goals as goal

pub loop-next-preserved : goal.loop-next-preserved
loop-next-preserved c =
    let heap = c.args.heap.now in
    let marked = c.args.marked.now in
    let next = c.loop-next.next in
    let row = c.row-row.result.now in
    let before = c.loop-next.invariant in
    record {
      all = λ p low high.
          elim (cases_lt p next) [
            | inl old ↦ before.all p low old
            | inr new ↦
                let k : ℕ = p - next in
                let inside : k < length row = omega (arith, new, high) in
                let at : next + k ≡ p = omega (arith, new) in
                let found = c.are_marked.ensures c.if-not-are_marked.false k inside in
                subst (λ w. (w ≤ heap_words heap) × (has marked w ≡ true)) (c.row-row.ensures.words k inside ∙ ap (word_at heap) at)
                (subst (λ (n : ℕ). (get_or row k 0 ≤ n) × (has marked (get_or row k 0) ≡ true)) c.len-words.ensures.value found)
          ];
      low = let low = before.low in omega arith;
    }
