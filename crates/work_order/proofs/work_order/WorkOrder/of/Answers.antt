use Rattle.std.proofs.Common.{◌≡◌, ◌∙◌, ◌<◌, ◌≤◌, ℕ, List, All, Contains, sym, subst, true, length, slice_index, inl, inr, arith}
use Rattle.std.proofs.lemmas.Bool.{cases_order, lt-ltb, ltb-true}
use Rattle.std.proofs.lemmas.List.{get_or_default}
use Rattle.object_heap.specs.HeapImage.{HeapImage}
use Rattle.summary.specs.RegionData.{fill_count}
use Rattle.summary.specs.WordMoves.{is_to_fill}
use Rattle.work_order.specs.Chains.{IsLongestChain}
use Rattle.work_order.proofs.Lemmas.Steps.{longest-chain, no-chain, no-word}
use Rattle.work_order.proofs.work_order.WorkOrder.of.Goals as goal

pub invariant_of-result : goal.invariant_of-result
invariant_of-result c =
    let image : HeapImage = c.args.plan.now in
    let chains : List ℕ = c.in_ok-chains.chains.items in
    let most = c.largest-chain.result in
    let longest = c.in_ok-chains.ensures.longest in
    let count : length chains ≡ fill_count image = c.in_ok-chains.ensures.all in
    let filled : (s : ℕ) → is_to_fill image s ≡ true → s < length chains = λ s fills.
    let below = ltb-true s (fill_count image) (sym (c.regions_to_fill.ensures.count image s) ∙ fills) in omega (arith, below, count) in
    let fills : (s : ℕ) → s < length chains → is_to_fill image s ≡ true = λ s inside.
    c.regions_to_fill.ensures.count image s ∙ lt-ltb s (fill_count image) (omega (arith, inside, count)) in
    let are = c.as_slice.ensures.value in
    let bound : All (λ n. n ≤ most) chains = subst (λ xs. All (λ n. n ≤ most) xs) are c.largest-chain.ensures.bound in
    let none : length chains ≡ 0 → most ≡ 0 = subst (λ xs. length xs ≡ 0 → most ≡ 0) are c.largest-chain.ensures.none in
    let reached : (i : ℕ) → i < length chains → Contains chains most = subst (λ xs. (i : ℕ) → i < length xs → Contains xs most) are c.largest-chain.ensures.reached in
    let is : IsLongestChain image most = elim (cases_order (length chains) 0) [
      | inl e ↦ subst (λ n. IsLongestChain image n) (sym (none e)) (no-chain image chains e filled)
      | inr apart ↦ elim apart [
        | inl less ↦ let no : ⊥ = omega (arith, less) in absurd no
        | inr more ↦
            let at = reached 0 more in
            longest-chain image chains most longest bound filled fills at.0 at.1 (get_or_default chains at.0 0 most at.1 ∙ at.2)
      ]
    ] in
    let list = c.in_ok-chains.ensures.valid in
    let top = c.regions_to_fill.ensures.top image list.live_list in
    let few = list.limits.few_words in
    record {
      some = λ zero. c.new_top-words.ensures ∙ no-word image most is zero;
      few = omega (arith, top, few, c.new_top-words.ensures);
    }

pub returns-clause-chain : goal.returns-clause-chain
returns-clause-chain c =
    let image : HeapImage = c.args.plan.now in
    let chains : List ℕ = c.in_ok-chains.chains.items in
    let most = c.largest-chain.result in
    let longest = c.in_ok-chains.ensures.longest in
    let count : length chains ≡ fill_count image = c.in_ok-chains.ensures.all in
    let filled : (s : ℕ) → is_to_fill image s ≡ true → s < length chains = λ s fills.
    let below = ltb-true s (fill_count image) (sym (c.regions_to_fill.ensures.count image s) ∙ fills) in omega (arith, below, count) in
    let fills : (s : ℕ) → s < length chains → is_to_fill image s ≡ true = λ s inside.
    c.regions_to_fill.ensures.count image s ∙ lt-ltb s (fill_count image) (omega (arith, inside, count)) in
    let are = c.as_slice.ensures.value in
    let bound : All (λ n. n ≤ most) chains = subst (λ xs. All (λ n. n ≤ most) xs) are c.largest-chain.ensures.bound in
    let none : length chains ≡ 0 → most ≡ 0 = subst (λ xs. length xs ≡ 0 → most ≡ 0) are c.largest-chain.ensures.none in
    let reached : (i : ℕ) → i < length chains → Contains chains most = subst (λ xs. (i : ℕ) → i < length xs → Contains xs most) are c.largest-chain.ensures.reached in
    let is : IsLongestChain image most = elim (cases_order (length chains) 0) [
      | inl e ↦ subst (λ n. IsLongestChain image n) (sym (none e)) (no-chain image chains e filled)
      | inr apart ↦ elim apart [
        | inl less ↦ let no : ⊥ = omega (arith, less) in absurd no
        | inr more ↦
            let at = reached 0 more in
            longest-chain image chains most longest bound filled fills at.0 at.1 (get_or_default chains at.0 0 most at.1 ∙ at.2)
      ]
    ] in
    is
