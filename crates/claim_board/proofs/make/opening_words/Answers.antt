use Rattle.std.proofs.Common.{◌≡◌, ◌<◌, length, vec_len, get_or, ◌==◌, arith, ap, ◌∙◌, below_more}
use Rattle.std.specs.Prelude.{count_by}
use Rattle.std.proofs.lemmas.List.{get_or_default}
use Rattle.scheduler.specs.MoveTable.{region_count}
use Rattle.scheduler.specs.State.{opening, readers_left}
use Rattle.claim_board.specs.Rule.{word_of}
use Rattle.claim_board.proofs.Lemmas.Openings.{at_old, at_new, all_readers, opening_word}
use Rattle.claim_board.proofs.make.opening_words.Goals as goal

pub opening_word-requires : goal.opening_word-requires
opening_word-requires c =
    let m = c.args.moves.now in
    let r = c.loop-region.region in
    let tallies = c.in_ok-readers.ensures in
    let inside : r < region_count m = (let b = c.loop-region-test.true in let n = c.regions-regions.ensures.number in omega arith) in
    let there : r < length c.in_ok-readers.readers.items = rw tallies.all inside in
    let is : c.index.result.now ≡ readers_left m opening r = c.index.ensures ∙ (get_or_default c.in_ok-readers.readers.items r c.index.result.now 0 there ∙ (tallies.each r inside ∙ all_readers m r)) in
    let few = (c.how_counts_go_down.ensures m opening c.regions-regions.ensures.lawful).few r in
    omega arith

pub loop-region-preserved : goal.loop-region-preserved
loop-region-preserved c =
    let i = c.loop-region.invariant in
    let p = c.in_ok-push.ensures in
    let m = c.args.moves.now in
    let r = c.loop-region.region in
    let x = c.opening_word.result in
    let tallies = c.in_ok-readers.ensures in
    let inside : r < region_count m = (let b = c.loop-region-test.true in let n = c.regions-regions.ensures.number in omega arith) in
    let there : r < length c.in_ok-readers.readers.items = rw tallies.all inside in
    let is : c.index.result.now ≡ count_by (λ pair. r == pair.1) m.pairs = c.index.ensures ∙ (get_or_default c.in_ok-readers.readers.items r c.index.result.now 0 there ∙ tallies.each r inside) in
    let word : x ≡ word_of m opening r = opening_word m r c.index.result.now x c.to_fill.result is c.to_fill.ensures c.opening_word.ensures in
    let here : vec_len c.loop-region.words ≡ length c.loop-region.words.items = (let z = c.loop-region.words.ok in omega arith) in (
      (let z = p.len in let y = i.0 in omega arith),
      below_more _ _
          (λ q low. ap (λ xs. get_or xs q 0) p.items ∙ (at_old c.loop-region.words.items x q (let y = i.0 in omega arith) ∙ i.1 q low))
          (ap (λ xs. get_or xs r 0) p.items ∙ (at_new c.loop-region.words.items x r (let y = i.0 in omega arith) ∙ word)),
    )

pub returns-clause-words : goal.returns-clause-words
returns-clause-words c =
    let i = c.loop-region.invariant in
    let n = c.regions-regions.ensures.number in
    let m = c.args.moves.now in
    let last : c.loop-region.region ≡ region_count m = (let t = c.loop-region-test.false in let e = c.loop-region.auto.region-end in omega arith) in
    let here : vec_len c.loop-region.words ≡ length c.loop-region.words.items = (let z = c.loop-region.words.ok in omega arith) in
    λ r low. ap (λ xs. get_or xs r 0) c.in_ok-push-2.ensures.items ∙ (at_old c.loop-region.words.items c.fill_count.result r (let y = i.0 in omega arith) ∙ i.1 r (omega arith))

pub returns-clause-remaining : goal.returns-clause-remaining
returns-clause-remaining c =
    let i = c.loop-region.invariant in
    let n = c.regions-regions.ensures.number in
    let m = c.args.moves.now in
    let last : c.loop-region.region ≡ region_count m = (let t = c.loop-region-test.false in let e = c.loop-region.auto.region-end in omega arith) in
    let here : vec_len c.loop-region.words ≡ length c.loop-region.words.items = (let z = c.loop-region.words.ok in omega arith) in
    let at : region_count m ≡ length c.loop-region.words.items = (let y = i.0 in omega arith) in
    ap (λ xs. get_or xs (region_count m) 0) c.in_ok-push-2.ensures.items ∙ (at_new c.loop-region.words.items c.fill_count.result (region_count m) at ∙ c.fill_count.ensures.opening)
