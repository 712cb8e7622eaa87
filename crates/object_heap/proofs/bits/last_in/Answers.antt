use Rattle.std.proofs.Common.{◌≡◌, refl, ℕ, ◌-◌, ◌/◌, ◌%◌, ◌<◌, inl, inr, List, length, get_or, take, ◌∙◌, sym, subst, arith, bit_and}
use Rattle.std.specs.Prelude.{MatchOption}
use Rattle.std.proofs.lemmas.Bool.{cases_lt}
use Rattle.std.proofs.lemmas.List.{get_or-take, length-take-le}
use Rattle.object_heap.specs.Bits.{has, NoneBelow, IsLastBelow, IsLastWord}
use Rattle.object_heap.proofs.Lemmas.Lasts.{high_mask, NoneBehind, IsLastBelow-in_word, IsUpTo-last, IsUpTo-before, NoneBehind-last, none-last, none-zero}
use Rattle.object_heap.proofs.bits.last_in.Goals as goal

pub returns-then-rest-ne0 : goal.returns-then-rest-ne0
returns-then-rest-ne0 c =
    let now : List ℕ = c.args.words.now in
    let limit : ℕ = c.args.limit in
    let word : ℕ = get_or now (limit / 64) 0 in
    IsLastBelow-in_word now limit (limit / 64) (bit_and word (high_mask (limit % 64))) c.highest.result
    (IsUpTo-last now limit word refl) (NoneBehind-last now limit)
    c.highest.ensures.below c.highest.ensures.set c.highest.ensures.greatest

pub returns-in_err-i : goal.returns-in_err-i
returns-in_err-i c = subst (λ o. MatchOption o (NoneBelow (has now) limit) (IsLastBelow (has now) limit)) (sym c.from_residual.ensures) none
  where
    now : List ℕ
    now = c.args.words.now

    limit : ℕ
    limit = c.args.limit

    long : length (take (limit / 64) now) ≡ limit / 64
    long = length-take-le (limit / 64) now (omega arith)

    none : NoneBelow (has now) limit
    none k b = elim (cases_lt (k / 64) (limit / 64)) [
      | inl before ↦ none-zero now k (sym (get_or-take (limit / 64) now (k / 64) 0 before) ∙ c.in_err-i.ensures (k / 64) 0 (subst (λ n. k / 64 < n) (sym long) before))
      | inr last ↦ none-last now limit (bit_and (get_or now (limit / 64) 0) (high_mask (limit % 64))) (IsUpTo-last now limit (get_or now (limit / 64) 0) refl) c.if-rest-ne0.false k b last
    ]

pub returns : goal.returns
returns c =
    IsLastBelow-in_word now limit i (get_or before i 0) c.highest-2.result
    (IsUpTo-before now limit i (get_or before i 0) inside there) behind
    c.highest-2.ensures.below c.highest-2.ensures.set c.highest-2.ensures.greatest
  where
    now : List ℕ
    now = c.args.words.now

    limit : ℕ
    limit = c.args.limit

    i : ℕ
    i = c.in_ok-i.i

    before : List ℕ
    before = take (limit / 64) now

    found : IsLastWord before i
    found = c.in_ok-i.ensures

    long : length before ≡ limit / 64
    long = length-take-le (limit / 64) now (omega arith)

    inside : i < limit / 64
    inside = subst (λ n. i < n) long found.inside

    there : get_or before i 0 ≡ get_or now i 0
    there = get_or-take (limit / 64) now i 0 inside

    behind : NoneBehind now limit i
    behind k b l = elim (cases_lt (k / 64) (limit / 64)) [
      | inl earlier ↦ none-zero now k (sym (get_or-take (limit / 64) now (k / 64) 0 earlier) ∙ found.greatest (k / 64) l (subst (λ n. k / 64 < n) (sym long) earlier))
      | inr last ↦ none-last now limit (bit_and (get_or now (limit / 64) 0) (high_mask (limit % 64))) (IsUpTo-last now limit (get_or now (limit / 64) 0) refl) c.if-rest-ne0.false k b last
    ]
