use Rattle.std.proofs.Common.{◌≡◌, ℕ, suc, ◌+◌, ◌*◌, ◌^◌, ◌%◌, ◌<◌, ◌≤◌, ◌++◌, ◌∷◌, [], length, take, sym, ◌∙◌, ap, arith, append_assoc, bit_and}
use Rattle.std.proofs.lemmas.List.{length-set, take_more_set}
use Rattle.std.specs.Prelude.{map}
use Rattle.std.specs.Int.{bit_not, w64}
use Rattle.object_heap.specs.Bits.{ones_of}
use Rattle.heap_marking.proofs.Lemmas.Ones.{ones_of-lowest}
use Rattle.heap_marking.proofs.live_list.write_ones.Goals as goal
use Rattle.heap_marking.proofs.live_list.write_ones.Goals.{After-from-place}

room_for : (next left n all room now : ℕ) → next + left ≡ all → all ≤ room → now ≡ room → left ≡ suc n → next < now
room_for next left n all room now is fits same more = omega (arith, is, fits, same, more)

one_on : (next left n all : ℕ) → next + left ≡ all → left ≡ suc n → next + 1 + n ≡ all
one_on next left n all is more = omega (arith, is, more)

module _ (c : After-from-place) where
  abbrev rest : ℕ
  rest = bit_and c.loop-rest.rest (bit_not w64 (1 * 2 ^ c.from-place.result % 2 ^ 64))

  lowest : ones_of c.loop-rest.rest ≡ c.from-place.result ∷ ones_of rest
  lowest =
      let some = c.loop-rest-test.true in
      let fits : c.loop-rest.rest < 2 ^ 64 = omega (arith, c.loop-rest.auto.rest-fits) in
      ones_of-lowest c.loop-rest.rest c.from-place.result (omega arith) fits c.from-place.ensures

  inside : c.loop-rest.next < length c.loop-rest.list
  inside = room_for c.loop-rest.next (length (ones_of c.loop-rest.rest)) (length (ones_of rest)) (c.args.first + length (ones_of c.args.word)) (length c.args.list.now) (length c.loop-rest.list)
      c.loop-rest.invariant.next c.requires.room c.loop-rest.invariant.room (ap length lowest)

pub bounds-list-next : goal.bounds-list-next
bounds-list-next c = inside c

pub loop-rest-smaller : goal.loop-rest-smaller
loop-rest-smaller c = let e = ap length (lowest c) in omega arith

pub loop-rest-preserved : goal.loop-rest-preserved
loop-rest-preserved c =
    let list = c.loop-rest.list in
    let next = c.loop-rest.next in
    let base = c.args.base in
    let before = c.loop-rest.invariant in
    let value : ℕ = base + c.from-place.result in
    record {
      room = length-set list next value ∙ before.room;
      next = one_on next (length (ones_of c.loop-rest.rest)) (length (ones_of (rest c))) (c.args.first + length (ones_of c.args.word)) before.next (ap length (lowest c));
      written =
          ap (λ xs. xs ++ map (λ j. base + j) (ones_of (rest c))) (take_more_set list next value (inside c))
          ∙ append_assoc (take next list) (value ∷ []) (map (λ j. base + j) (ones_of (rest c)))
          ∙ ap (λ xs. take next list ++ map (λ j. base + j) xs) (sym (lowest c))
          ∙ before.written;
    }
