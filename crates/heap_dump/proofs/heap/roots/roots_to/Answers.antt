use Rattle.std.proofs.Common.{◌≡◌, ◌∙◌, ◌<◌, ◌≤◌, ◌+◌, ◌++◌, ◌∷◌, [], ℕ, List, length, ap, sym, subst, All, arith}
use Rattle.std.proofs.lemmas.List.{length-append}
use Rattle.std.proofs.lemmas.List.Elements.{All-push}
use Rattle.std.specs.List.Sorted.{IsStrictlyIncreasing}
use Rattle.heap_dump.proofs.Lemmas.Increasing.{increasing_push}
use Rattle.heap_dump.proofs.heap.roots.roots_to.Goals.{then-index+in_ok-push, else-index}
use Rattle.heap_dump.proofs.heap.roots.roots_to.Goals as goal

pub loop-address-preserved : goal.loop-address-preserved
loop-address-preserved c =
    let words : ℕ = c.args.words in
    let address : ℕ = c.loop-address.address in
    let old : List ℕ = c.loop-address.roots.items in
    let so_far = c.loop-address.invariant in
    let later : All (λ r. r ≤ address + 1) old = λ k d l. let low = so_far.so_far k d l in omega (arith, low) in
    elim c.if-index.branch [
      | then-index+in_ok-push w ↦
          let root : ℕ = address + 1 in
          let items : c.if-index.roots.items ≡ old ++ root ∷ [] = ap (λ roots. roots.items) w.roots-is ∙ w.in_ok-push.ensures.items in
          let below : All (λ r. r < root) old = λ k d l. let low = so_far.so_far k d l in omega (arith, low) in
          record {
            few = omega (arith, so_far.few, ap length items, length-append old (root ∷ []));
            inside = subst (λ xs. All (λ r. r ≤ words) xs) (sym items) (All-push (λ r. r ≤ words) old root so_far.inside (omega (arith, c.loop-address-test.true)));
            so_far = subst (λ xs. All (λ r. r ≤ address + 1) xs) (sym items) (All-push (λ r. r ≤ address + 1) old root later (omega arith));
            ascend = subst IsStrictlyIncreasing (sym items) (increasing_push old root so_far.ascend below);
          }
      | else-index w ↦
          let items : c.if-index.roots.items ≡ old = ap (λ roots. roots.items) w.roots-is in
          record {
            few = omega (arith, so_far.few, ap length items);
            inside = subst (λ xs. All (λ r. r ≤ words) xs) (sym items) so_far.inside;
            so_far = subst (λ xs. All (λ r. r ≤ address + 1) xs) (sym items) later;
            ascend = subst IsStrictlyIncreasing (sym items) so_far.ascend;
          }
    ]
