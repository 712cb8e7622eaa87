use Rattle.std.proofs.Common.{◌≡◌, ℕ, ◌+◌, ◌-◌, ◌≤◌, Bool, List, ◌++◌, length, get_or, take, drop, set, map, vec_len, sym, ◌∙◌, ap, subst, arith}
use Rattle.std.proofs.lemmas.List.{take-take, take-set, length-set, get_or-take, get_or_push}
use Rattle.caller_heap.specs.Lent.{Lent, content, held}
use Rattle.caller_heap.proofs.Lemmas.Lending.{kept_more, same_told}
use Rattle.caller_heap.proofs.lending.keep_all.Goals as goal

pub loop-region-preserved : goal.loop-region-preserved
loop-region-preserved c =
    let before : List Lent = c.args.words.now in
    let now : List Lent = c.loop-region.words in
    let all : List (List ℕ) = c.args.regions.items in
    let so_far = c.loop-region.invariant in
    let k : ℕ = vec_len c.loop-region.regions in
    let n : ℕ = vec_len c.pop.new.self in
    let front : List (List ℕ) = c.pop.new.self.items in
    let region : List ℕ = c.in-Some.region in
    let new : Lent = c.keep.new.self in
    let left : n + 1 ≡ k = c.in-Some.ensures.cases in
    let few : k ≤ vec_len c.args.regions = so_far.few in
    let at : c.len-r.result ≡ n = c.len-r.ensures in
    let before_it : k - 1 ≡ n = omega arith in
    let whole : length front ≡ n = sym c.pop.new.self.ok.0 in
    let ok : length all ≡ vec_len c.args.regions = sym c.args.regions.ok.0 in
    let room : vec_len c.args.regions ≤ length before = c.requires.few in
    let long : length now ≡ length before = so_far.long in
    let is : get_or all n region ≡ region =
    sym (get_or-take k all n region (omega arith)) ∙ ap (λ xs. get_or xs n region) (sym so_far.out ∙ c.in-Some.ensures.items) ∙ get_or_push front region region n whole in
    let rest : List (Bool × List ℕ) = map content (drop (vec_len c.args.regions) before) in
    let kept : map content (drop (n + 1) now) ≡ map held (drop (n + 1) all) ++ rest = subst (λ m. map content (drop m now) ≡ map held (drop m all) ++ rest) (sym left) so_far.kept in
    record {
      out = c.in-Some.ensures.rest ∙ ap (take (k - 1)) so_far.out ∙ take-take (k - 1) k all (omega arith) ∙ ap (λ m. take m all) before_it;
      few = omega arith;
      front =
          ap (λ m. take n (set now m new)) at
          ∙ take-set now n new
          ∙ sym (take-take n k now (omega arith))
          ∙ ap (take n) so_far.front
          ∙ take-take n k before (omega arith);
      long = length-set now c.len-r.result new ∙ long;
      kept =
          ap (λ m. map content (drop n (set now m new))) at
          ∙ kept_more now all region n new rest (omega arith) (omega arith) is (same_told new region c.in_default-keep.ensures.held.0 c.in_default-keep.ensures.held.1) kept;
    }
