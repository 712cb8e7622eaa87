use Rattle.std.proofs.Common.{◌≡◌, ◌+◌, ◌-◌, true, false, get_or, length, ap, sym, arith, below_more}
use Rattle.object_heap.specs.ObjectFaults.{is_misplaced}
use Rattle.heap_image.proofs.Lemmas.Finds.{find_least_from_zero, find_none_in_range}
use Rattle.heap_image.proofs.Lemmas.LiveOrder.{placed, too_low, too_high}
use Rattle.heap_image.proofs.check.misplaced_index.Goals as goal
use Rattle.heap_image.proofs.check.misplaced_index.Goals.{then-a-next-via-then-a-next, then-a-next-via-else-a-next+then-a-words}

pub loop-index-preserved : goal.loop-index-preserved
loop-index-preserved c =
    let words = c.args.words in
    let live = c.args.live.now in
    let i = c.loop-index.index in
    let so_far = c.loop-index.invariant in
    let back : i + 1 - 1 ≡ i = omega arith in
    record {
      placed = below_more (λ k. is_misplaced words live k ≡ false) i so_far.placed (placed words live i c.loop-index.next so_far.first so_far.later c.if-a-words.false c.if-a-next.false);
      first = λ e. let no : ⊥ = omega arith in absurd no;
      later = λ _. ap (λ k. get_or live k 0 + 1) (sym back);
    }

pub returns-then-a-next : goal.returns-then-a-next
returns-then-a-next c =
    let words = c.args.words in
    let live = c.args.live.now in
    let i = c.loop-index.index in
    let so_far = c.loop-index.invariant in
    let at : is_misplaced words live i ≡ true = elim c.then-a-next.branch [
      | then-a-next-via-then-a-next w ↦ too_low words live i c.loop-index.next so_far.first so_far.later (omega arith)
      | then-a-next-via-else-a-next+then-a-words w ↦ too_high words live i c.loop-index.next so_far.first so_far.later (omega arith)
    ] in
    sym (find_least_from_zero (is_misplaced words live) (length live) i c.loop-index-test.true so_far.placed at)

pub returns : goal.returns
returns c =
    let words = c.args.words in
    let live = c.args.live.now in
    let so_far = c.loop-index.invariant in
    let test = c.loop-index-test.false in
    sym (find_none_in_range (is_misplaced words live) 0 (length live) (λ k l. so_far.placed k (omega arith)))
