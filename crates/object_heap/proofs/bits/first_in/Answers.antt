use Rattle.std.proofs.Common.{◌≡◌, refl, ℕ, ◌+◌, ◌-◌, ◌/◌, ◌%◌, List, length, get_or, take, drop, ap, ◌∙◌, sym, subst, arith, bit_and, Some, None}
use Rattle.std.specs.Prelude.{MatchOption}
use Rattle.std.specs.List.{position}
use Rattle.std.proofs.lemmas.List.{length-drop, get_or-drop}
use Rattle.object_heap.specs.Bits.{has, NoneFrom, IsFirstFrom}
use Rattle.object_heap.proofs.Lemmas.Masks.{low_mask}
use Rattle.object_heap.proofs.Lemmas.Firsts.{NoneBefore, nonzero, IsFirstFrom-in_word, IsRest-first, IsRest-behind, NoneBefore-first, NoneBefore-second, NoneBefore-behind, NoneFrom-words, zeros-none, zeros-some, words_behind, found-some}
use Rattle.object_heap.proofs.bits.first_in.Goals as goal

pub returns-then-rest-ne0 : goal.returns-then-rest-ne0
returns-then-rest-ne0 c =
    let now : List ℕ = c.args.words.now in
    let from : ℕ = c.args.from in
    let word : ℕ = c.in_ok-rest.field-0.now in
    let at : word ≡ get_or now (from / 64) 0 = c.in_ok-rest.ensures.lookup.3.1 0 in
    IsFirstFrom-in_word now from (from / 64) (bit_and word (low_mask (from % 64))) c.lowest.result
    (IsRest-first now from word at) (NoneBefore-first now from)
    c.lowest.ensures.below c.lowest.ensures.set c.lowest.ensures.least

pub returns-in_err-i : goal.returns-in_err-i
returns-in_err-i c =
    let now : List ℕ = c.args.words.now in
    let from : ℕ = c.args.from in
    let n : ℕ = from / 64 + 1 in
    let word : ℕ = c.in_ok-rest.field-0.now in
    let at : word ≡ get_or now (from / 64) 0 = c.in_ok-rest.ensures.lookup.3.1 0 in
    let none : NoneBefore now from n = NoneBefore-second now from (bit_and word (low_mask (from % 64))) (IsRest-first now from word at) c.if-rest-ne0.false in
    let found : None ≡ position nonzero (take (length now - n) (drop n now)) = c.in_err-i.ensures in
    let found' : position nonzero (drop n now) ≡ None = sym (found ∙ ap (position nonzero) (words_behind now now n refl)) in
    let long : length (drop n now) ≡ length now - n = length-drop n now in
    let all : NoneFrom (has now) from = NoneFrom-words now from (n + length (drop n now)) (omega arith) (NoneBefore-behind now from n (length (drop n now)) none (zeros-none (drop n now) found')) in
    subst (λ o. MatchOption o (NoneFrom (has now) from) (IsFirstFrom (has now) from)) (sym c.from_residual-in_err-i.ensures) all

pub lowest-requires-2 : goal.lowest-requires-2
lowest-requires-2 c =
    let now : List ℕ = c.args.words.now in
    let n : ℕ = c.args.from / 64 + 1 in
    let i : ℕ = c.in_ok-i.i in
    let found : Some i ≡ position nonzero (take (length now - n) (drop n now)) = c.in_ok-i.ensures in
    found-some (take (length now - n) (drop n now)) i (sym found)

pub returns : goal.returns
returns c =
    let now : List ℕ = c.args.words.now in
    let from : ℕ = c.args.from in
    let n : ℕ = from / 64 + 1 in
    let i : ℕ = c.in_ok-i.i in
    let word : ℕ = c.in_ok-rest.field-0.now in
    let at : word ≡ get_or now (from / 64) 0 = c.in_ok-rest.ensures.lookup.3.1 0 in
    let none : NoneBefore now from n = NoneBefore-second now from (bit_and word (low_mask (from % 64))) (IsRest-first now from word at) c.if-rest-ne0.false in
    let behind : List ℕ = take (length now - n) (drop n now) in
    let rest : behind ≡ drop n now = words_behind now now n refl in
    let found : Some i ≡ position nonzero behind = c.in_ok-i.ensures in
    let found' : position nonzero (drop n now) ≡ Some i = sym (found ∙ ap (position nonzero) rest) in
    let there : get_or behind i 0 ≡ get_or now (n + i) 0 = ap (λ (w : List ℕ). get_or w i 0) rest ∙ get_or-drop n now i 0 in
    IsFirstFrom-in_word now from (n + i) (get_or behind i 0) c.lowest-2.result
    (IsRest-behind now from (n + i) (get_or behind i 0) (omega arith) there)
    (NoneBefore-behind now from n i none (zeros-some (drop n now) i found'))
    c.lowest-2.ensures.below c.lowest-2.ensures.set c.lowest-2.ensures.least
