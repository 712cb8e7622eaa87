use Rattle.std.proofs.Common.{ℕ, ◌+◌, ◌*◌, ◌^◌, ◌%◌, ◌<◌, ◌++◌, ◌∷◌, [], length, sym, ◌∙◌, ap, arith, append_assoc, bit_and}
use Rattle.std.proofs.lemmas.List.{append-nil}
use Rattle.std.specs.Prelude.{map}
use Rattle.std.specs.Int.{bit_not, w64}
use Rattle.object_heap.specs.Bits.{ones_of}
use Rattle.heap_marking.proofs.Lemmas.Ones.{ones_of-zero, ones_of-lowest}
use Rattle.heap_marking.proofs.live_list.push_ones.Goals as goal
use Rattle.heap_marking.proofs.live_list.push_ones.Goals.{After-push}

pub loop-rest-smaller : goal.loop-rest-smaller
loop-rest-smaller c =
    let some = c.loop-rest-test.true in
    let fits : c.loop-rest.rest < 2 ^ 64 = omega (arith, c.loop-rest.auto.rest-fits) in
    let e = ap length (ones_of-lowest c.loop-rest.rest c.from-place.result (omega arith) fits c.from-place.ensures) in
    omega arith

pub loop-rest-preserved : goal.loop-rest-preserved
loop-rest-preserved c =
    let some = c.loop-rest-test.true in
    let live = c.loop-rest.live.items in
    let base = c.args.base in
    let place = c.from-place.result in
    let rest : ℕ = bit_and c.loop-rest.rest (bit_not w64 (1 * 2 ^ place % 2 ^ 64)) in
    let fits : c.loop-rest.rest < 2 ^ 64 = omega (arith, c.loop-rest.auto.rest-fits) in
    let e = ones_of-lowest c.loop-rest.rest place (omega arith) fits c.from-place.ensures in
    ap (λ xs. xs ++ map (λ j. base + j) (ones_of rest)) c.in_ok-push.ensures.items
    ∙ append_assoc live ((base + place) ∷ []) (map (λ j. base + j) (ones_of rest))
    ∙ ap (λ xs. live ++ map (λ j. base + j) xs) (sym e)
    ∙ c.loop-rest.invariant

pub returns : goal.returns
returns c =
    let none = ones_of-zero c.loop-rest.rest c.loop-rest-test.false in
    sym (append-nil c.loop-rest.live.items) ∙ ap (λ xs. c.loop-rest.live.items ++ map (λ j. c.args.base + j) xs) (sym none) ∙ c.loop-rest.invariant
