use Rattle.std.proofs.Common.{◌≡◌, ℕ, ◌+◌, ◌^◌, ◌<◌, ◌≤◌, true, List, [], ◌∷◌, ◌++◌, length, get_or, take, set, map, vec_len, sym, ◌∙◌, ap, subst, arith}
use Rattle.std.proofs.lemmas.List.{map_more, length-set}
use Rattle.std.proofs.lemmas.List.Elements.{All-more, All-push}
use Rattle.std.specs.Prelude.{All}
use Rattle.caller_heap.specs.Lent.{Lent, IsHeld, IsGone, IsRegion, words_in}
use Rattle.caller_heap.proofs.Lemmas.Lending.{rest_at, rest_more, gone_more, lent_more, small_region, region_is}
use Rattle.caller_heap.proofs.lending.lend_each.Goals as goal

pub returns-in_default-clause-stopped : goal.returns-in_default-clause-stopped
returns-in_default-clause-stopped c = λ _ all.
    let before : List Lent = c.args.words.now in
    let now : List Lent = c.loop-place.words in
    let i : ℕ = c.loop-place.place-index in
    let p : Lent = c.place-item.result in
    let was : p ≡ get_or before i p = c.place-item.is ∙ rest_at now before i p c.loop-place.invariant.rest in
    let is : IsRegion c.args.region_log p = subst (IsRegion c.args.region_log) (sym was) (all i p c.loop-place-test.true) in
    let refused : p.0 ≡ true → 1 ≤ p.2 → p.2 ≤ 1048576 → ⊥ = subst (λ (w : Lent). w.0 ≡ true → 1 ≤ w.2 → w.2 ≤ 1048576 → ⊥) (sym c.place-item.is) c.in_default.ensures.refused in
    let size = small_region c.args.region_log is.3 in
    let low = size.0 in
    let high = size.1 in
    let long = is.1 in
    let whole = is.2 in
    refused is.0 (omega arith) (omega arith)

pub returns-then-not-is_whole-clause-lent : goal.returns-then-not-is_whole-clause-lent
returns-then-not-is_whole-clause-lent c =
    let before : List Lent = c.args.words.now in
    let now : List Lent = c.loop-place.words in
    let i : ℕ = c.loop-place.place-index in
    let p : Lent = c.place-item.result in
    let was : p ≡ get_or before i p = c.place-item.is ∙ rest_at now before i p c.loop-place.invariant.rest in
    let region : c.in-Some.region ≡ words_in p = c.in-Some.ensures.words ∙ ap words_in (sym c.place-item.is) in
    let len : vec_len c.push_reserved.new.self ≡ i + 1 = c.push_reserved.ensures.len ∙ ap (λ n. n + 1) c.loop-place.invariant.count in
    c.push_reserved.ensures.items
    ∙ ap (λ b. c.loop-place.regions.items ++ b ∷ []) region
    ∙ lent_more c.loop-place.regions.items before i p c.loop-place-test.true (sym was) c.loop-place.invariant.lent
    ∙ ap (λ n. map words_in (take n before)) (sym len)

pub returns-then-not-is_whole-clause-held : goal.returns-then-not-is_whole-clause-held
returns-then-not-is_whole-clause-held c =
    let before : List Lent = c.args.words.now in
    let now : List Lent = c.loop-place.words in
    let i : ℕ = c.loop-place.place-index in
    let p : Lent = c.place-item.result in
    let was : p ≡ get_or before i p = c.place-item.is ∙ rest_at now before i p c.loop-place.invariant.rest in
    let held : IsHeld p = subst IsHeld (sym c.place-item.is) c.in-Some.ensures.held in
    let len : vec_len c.push_reserved.new.self ≡ i + 1 = c.push_reserved.ensures.len ∙ ap (λ n. n + 1) c.loop-place.invariant.count in
    subst (λ n. All IsHeld (take n before)) (sym len) (All-more IsHeld before i p c.loop-place-test.true c.loop-place.invariant.held (subst IsHeld was held))

pub returns-then-not-is_whole-clause-gone : goal.returns-then-not-is_whole-clause-gone
returns-then-not-is_whole-clause-gone c =
    let now : List Lent = c.loop-place.words in
    let i : ℕ = c.loop-place.place-index in
    let new : Lent = c.lend.new.self in
    let inside : i < length now = let long = c.loop-place.invariant.long in omega (arith, c.loop-place-test.true) in
    let len : vec_len c.push_reserved.new.self ≡ i + 1 = c.push_reserved.ensures.len ∙ ap (λ n. n + 1) c.loop-place.invariant.count in
    subst (λ n. All IsGone (take n (set now i new))) (sym len) (gone_more now i new inside c.loop-place.invariant.gone c.in-Some.ensures.gone)

pub returns-then-not-is_whole-clause-stopped : goal.returns-then-not-is_whole-clause-stopped
returns-then-not-is_whole-clause-stopped c = λ _ all.
    let before : List Lent = c.args.words.now in
    let now : List Lent = c.loop-place.words in
    let i : ℕ = c.loop-place.place-index in
    let p : Lent = c.place-item.result in
    let was : p ≡ get_or before i p = c.place-item.is ∙ rest_at now before i p c.loop-place.invariant.rest in
    let is : IsRegion c.args.region_log p = subst (IsRegion c.args.region_log) (sym was) (all i p c.loop-place-test.true) in
    let region : c.in-Some.region ≡ words_in p = c.in-Some.ensures.words ∙ ap words_in (sym c.place-item.is) in
    let whole : length c.in-Some.region ≡ 2 ^ c.args.region_log = ap length region ∙ is.2 in
    let size : c.region_size-size.result ≡ 2 ^ c.args.region_log = c.region_size-size.ensures.size is.3 in
    let counted : c.len.result ≡ length c.in-Some.region = c.len.ensures.value in
    let other = c.if-not-is_whole.true in
    omega arith

pub loop-place-preserved : goal.loop-place-preserved
loop-place-preserved c =
    let before : List Lent = c.args.words.now in
    let now : List Lent = c.loop-place.words in
    let i : ℕ = c.loop-place.place-index in
    let p : Lent = c.place-item.result in
    let so_far = c.loop-place.invariant in
    let new : Lent = c.lend.new.self in
    let log : ℕ = c.args.region_log in
    let was : p ≡ get_or before i p = c.place-item.is ∙ rest_at now before i p so_far.rest in
    let inside : i < length now = let long = so_far.long in omega (arith, c.loop-place-test.true) in
    let held : IsHeld p = subst IsHeld (sym c.place-item.is) c.in-Some.ensures.held in
    let region : c.in-Some.region ≡ words_in p = c.in-Some.ensures.words ∙ ap words_in (sym c.place-item.is) in
    let len : vec_len c.push_reserved.new.self ≡ i + 1 = c.push_reserved.ensures.len ∙ ap (λ n. n + 1) so_far.count in
    let counted : c.len.result ≡ length c.in-Some.region = c.len.ensures.value in
    let same = c.if-not-is_whole.false in
    let some : 1 ≤ length c.in-Some.region = c.len.ensures.nonempty in
    let sized : c.len.result ≡ c.region_size-size.result = omega arith in
    let size : length (words_in p) ≡ 2 ^ log = ap length (sym region) ∙ sym counted ∙ sized ∙ region_is log c.region_size-size.result c.region_size-size.ensures.size c.region_size-size.ensures.none (omega arith) in
    let Whole : List ℕ → Type 0 = λ block. length block ≡ 2 ^ log in
    record {
      lent = c.push_reserved.ensures.items
          ∙ ap (λ b. c.loop-place.regions.items ++ b ∷ []) region
          ∙ lent_more c.loop-place.regions.items before i p c.loop-place-test.true (sym was) so_far.lent;
      count = len;
      held = All-more IsHeld before i p c.loop-place-test.true so_far.held (subst IsHeld was held);
      gone = gone_more now i new inside so_far.gone c.in-Some.ensures.gone;
      rest = rest_more now before i new so_far.rest;
      long = length-set now i new ∙ so_far.long;
      room = let r = so_far.room in let k = c.push_reserved.ensures.capacity in omega arith;
      whole = subst (All Whole) (sym (map_more words_in before i p c.loop-place-test.true)) (All-push Whole (map words_in (take i before)) (words_in (get_or before i p)) so_far.whole (subst (λ (w : Lent). length (words_in w) ≡ 2 ^ log) was size));
    }
