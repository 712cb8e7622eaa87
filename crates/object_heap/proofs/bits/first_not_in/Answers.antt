use Rattle.std.proofs.Common.{◌≡◌, refl, ℕ, ◌+◌, ◌-◌, ◌*◌, ◌/◌, ◌%◌, List, length, get_or, take, drop, ap, ◌∙◌, sym, arith, bit_and, Some, None}
use Rattle.std.specs.List.{position}
use Rattle.std.proofs.lemmas.Bool.{ltb-true}
use Rattle.std.proofs.lemmas.List.{length-drop, get_or-drop, get_or_default}
use Rattle.object_heap.proofs.Lemmas.Masks.{low_mask}
use Rattle.object_heap.proofs.Lemmas.Firsts.{words_behind}
use Rattle.object_heap.proofs.Lemmas.Absent.{AllBefore, not_full, first-in_word, lack-first, lack-behind, all-first, all-second, all-behind, full-none, full-some, found-lack, first-past}
use Rattle.object_heap.proofs.bits.first_not_in.Goals as goal

pub returns-then-rest-ne0 : goal.returns-then-rest-ne0
returns-then-rest-ne0 c =
    let now : List ℕ = c.args.words.now in
    let from : ℕ = c.args.from in
    let word : ℕ = c.in-Some.word.now in
    let at : word ≡ get_or now (from / 64) 0 = c.in-Some.ensures.lookup.1 ∙ get_or_default now (from / 64) word 0 (ltb-true (from / 64) (length now) (sym c.in-Some.ensures.lookup.0)) in
    first-in_word now from (from / 64) (bit_and c.complement.result (low_mask (from % 64))) c.lowest.result
    (lack-first now from word c.complement.result c.complement.ensures.bits at) (all-first now from)
    c.lowest.ensures.below c.lowest.ensures.set c.lowest.ensures.least

pub lowest-requires-in-Some-first_not_full : goal.lowest-requires-in-Some-first_not_full
lowest-requires-in-Some-first_not_full c =
    let now : List ℕ = c.args.words.now in
    let n : ℕ = c.args.from / 64 + 1 in
    let i : ℕ = c.in-Some-first_not_full.i in
    let behind : List ℕ = take (length now - n) (drop n now) in
    let found : Some i ≡ position not_full behind = c.in-Some-first_not_full.ensures in
    c.complement-in-Some-first_not_full.ensures.some (found-lack behind i (sym found)).0

pub returns-in-Some-first_not_full : goal.returns-in-Some-first_not_full
returns-in-Some-first_not_full c =
    let now : List ℕ = c.args.words.now in
    let from : ℕ = c.args.from in
    let n : ℕ = from / 64 + 1 in
    let i : ℕ = c.in-Some-first_not_full.i in
    let word : ℕ = c.in-Some.word.now in
    let at : word ≡ get_or now (from / 64) 0 = c.in-Some.ensures.lookup.1 ∙ get_or_default now (from / 64) word 0 (ltb-true (from / 64) (length now) (sym c.in-Some.ensures.lookup.0)) in
    let all : AllBefore now from n = all-second now from (bit_and c.complement.result (low_mask (from % 64))) (lack-first now from word c.complement.result c.complement.ensures.bits at) c.if-rest-ne0.false in
    let behind : List ℕ = take (length now - n) (drop n now) in
    let rest : behind ≡ drop n now = words_behind now now n refl in
    let found : Some i ≡ position not_full behind = c.in-Some-first_not_full.ensures in
    let found' : position not_full (drop n now) ≡ Some i = sym (found ∙ ap (position not_full) rest) in
    let there : get_or behind i 0 ≡ get_or now (n + i) 0 = ap (λ (w : List ℕ). get_or w i 0) rest ∙ get_or-drop n now i 0 in
    first-in_word now from (n + i) c.complement-in-Some-first_not_full.result c.lowest-in-Some-first_not_full.result
    (lack-behind now from (n + i) (get_or behind i 0) c.complement-in-Some-first_not_full.result c.complement-in-Some-first_not_full.ensures.bits (omega arith) there)
    (all-behind now from n i all (full-some (drop n now) i found'))
    c.lowest-in-Some-first_not_full.ensures.below c.lowest-in-Some-first_not_full.ensures.set c.lowest-in-Some-first_not_full.ensures.least

pub returns-in-None : goal.returns-in-None
returns-in-None c =
    let now : List ℕ = c.args.words.now in
    let from : ℕ = c.args.from in
    let n : ℕ = from / 64 + 1 in
    let word : ℕ = c.in-Some.word.now in
    let at : word ≡ get_or now (from / 64) 0 = c.in-Some.ensures.lookup.1 ∙ get_or_default now (from / 64) word 0 (ltb-true (from / 64) (length now) (sym c.in-Some.ensures.lookup.0)) in
    let all : AllBefore now from n = all-second now from (bit_and c.complement.result (low_mask (from % 64))) (lack-first now from word c.complement.result c.complement.ensures.bits at) c.if-rest-ne0.false in
    let behind : List ℕ = take (length now - n) (drop n now) in
    let rest : behind ≡ drop n now = words_behind now now n refl in
    let found : None ≡ position not_full behind = c.in-None.ensures in
    let found' : position not_full (drop n now) ≡ None = sym (found ∙ ap (position not_full) rest) in
    let inside = ltb-true (from / 64) (length now) (sym c.in-Some.ensures.lookup.0) in
    let long : length (drop n now) ≡ length now - n = length-drop n now in
    let to : 64 * length now / 64 ≡ length now = omega arith in
    let before : AllBefore now from (n + length (drop n now)) = all-behind now from n (length (drop n now)) all (full-none (drop n now) found') in
    first-past now from (64 * length now) (omega arith) (omega arith) (λ k f l. before k f (omega arith))
