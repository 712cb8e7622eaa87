use Rattle.std.proofs.Common.{◌≡◌, ◌*◌, ℕ, ◌+◌, ◌≤◌, List, length, ap, ◌∙◌, arith}
use Rattle.std.specs.Prelude.{count_by}
use Rattle.std.specs.List.{range_with_len}
use Rattle.object_heap.specs.Bits.{has}
use Rattle.object_heap.proofs.Lemmas.Counts.{count-next, count-le}
use Rattle.object_heap.proofs.bits.ones_of.Goals as goal

pub overflow_add-count : goal.overflow_add-count
overflow_add-count c =
    let now : List ℕ = c.args.words.now in
    let so_far : c.loop-word.count ≡ count_by (has now) (range_with_len 0 (64 * c.loop-word.word-index)) = c.loop-word.invariant in
    let few : count_by (has now) (range_with_len 0 (64 * c.loop-word.word-index)) ≤ 64 * c.loop-word.word-index = count-le (has now) 0 (64 * c.loop-word.word-index) in
    omega arith

pub loop-word-preserved : goal.loop-word-preserved
loop-word-preserved c =
    ap (λ n. c.loop-word.count + n) c.ones-count.ensures.value
    ∙ count-next c.args.words.now c.loop-word.word-index c.loop-word.count c.loop-word.invariant

pub returns : goal.returns
returns c =
    let now : List ℕ = c.args.words.now in
    let end : c.loop-word.word-index ≡ length now = omega arith in
    c.loop-word.invariant ∙ ap (λ n. count_by (has now) (range_with_len 0 (64 * n))) end
