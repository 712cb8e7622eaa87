use Rattle.std.proofs.Common.{◌≡◌, ◌∙◌, ◌≤◌, ◌+◌, ◌*◌, ◌++◌, ◌∷◌, [], ℕ, List, ap, sym, subst, length, length-append, arith}
use Rattle.object_heap.specs.HeapImage.{HeapImage}
use Rattle.work_order.specs.Chains.{AreLongest, IsLongestFrom, fill_words}
use Rattle.work_order.proofs.Lemmas.Steps.{longest-from, one-longer}
use Rattle.work_order.proofs.chains.longest_chains.Goals as goal

pub loop-region-preserved : goal.loop-region-preserved
loop-region-preserved c =
    let image : HeapImage = c.args.plan.now in
    let s = c.loop-region.region in
    let before : List ℕ = c.loop-region.chains.items in
    let so_far = c.loop-region.invariant in
    let after = c.longest_after-after.result in
    let own = c.fill_words.result in
    let from : IsLongestFrom image s (own + after) =
    subst (λ n. IsLongestFrom image s (n + after)) (sym c.fill_words.ensures.value) (longest-from image s after c.longest_after-after.ensures.longest) in
    let few : own + after ≤ (s + 1) * 1048576 = omega (arith, c.fill_words.ensures.few, c.longest_after-after.ensures.few) in
    let are : c.push.new.self.items ≡ before ++ ((own + after) ∷ []) = c.in_ok-push.ensures.items in
    record {
      longest = subst (λ xs. AreLongest image xs) (sym are) (one-longer image s (own + after) before so_far.longest so_far.all from few);
      all = ap length are ∙ length-append before ((own + after) ∷ []) ∙ ap (λ n. n + 1) so_far.all;
    }
