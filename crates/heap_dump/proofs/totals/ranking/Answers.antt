use Rattle.std.proofs.Common.{not, subst, rules}
use Rattle.std.specs.Prelude.{IsPermutation}
use Rattle.std.specs.List.Sorted.{IsStableByKey}
use Rattle.std.specs.Ordering.{nat_cmp}
use Rattle.std.proofs.lemmas.List.Elements.{filter_from_retain}
use Rattle.std.proofs.lemmas.List.Sorted.{answers_always}
use Rattle.heap_dump.specs.Totals.{are_none, rank_of}
use Rattle.heap_dump.proofs.totals.ranking.Goals as goal

pub returns : goal.returns
returns c =
    let totals = c.in_ok-ranked.ranked.items in
    let kept = filter_from_retain _ (λ class. not (are_none class.totals)) (λ p x b q r. search rules) _ _ _ c.retain.ensures.filtered in
    record {
      totals = totals;
      counted = c.in_ok-ranked.ensures;
      permuted = subst (λ xs. IsPermutation xs c.sort_by_key.new.self.items) kept c.in_ok-sort_by_key.ensures.permutation;
      descends = c.in_ok-sort_by_key.ensures.sorted rank_of (answers_always _ _ _ (λ f a r g h. search rules));
      ties = subst (λ xs. IsStableByKey rank_of nat_cmp xs c.sort_by_key.new.self.items) kept
          (c.in_ok-sort_by_key.ensures.stable rank_of (answers_always _ _ _ (λ f a r g h. search rules)));
    }
