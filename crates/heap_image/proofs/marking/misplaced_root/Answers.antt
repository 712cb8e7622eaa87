use Rattle.std.proofs.Common.{length, get_or, ltb, sym, arith}
use Rattle.std.proofs.lemmas.Bool.{lt-ltb, le-ltb}
use Rattle.heap_image.proofs.Lemmas.Finds.{find_least_from_zero, find_none_in_range}
use Rattle.heap_image.proofs.marking.misplaced_root.Goals as goal

pub returns-then-root-words : goal.returns-then-root-words
returns-then-root-words c =
    let words = c.args.words in
    let roots = c.args.roots.now in
    let i = c.loop-index.index in
    sym (find_least_from_zero (λ k. ltb words (get_or roots k 0)) (length roots) i c.loop-index-test.true (λ k m. le-ltb words (get_or roots k 0) (c.loop-index.invariant k m)) (lt-ltb words (get_or roots i 0) c.if-root-words.true))

pub returns : goal.returns
returns c =
    let words = c.args.words in
    let roots = c.args.roots.now in
    let test = c.loop-index-test.false in
    sym (find_none_in_range (λ k. ltb words (get_or roots k 0)) 0 (length roots) (λ k l. le-ltb words (get_or roots k 0) (c.loop-index.invariant k (omega arith))))
