use Rattle.std.proofs.Common.{◌≡◌, ◌+◌, ◌^◌, ◌≤◌, ◌++◌, ◌∷◌, [], List, ℕ, length, ap, sym, subst, ◌∙◌, arith, length-append, append_assoc}
use Rattle.std.proofs.Math.Nat.{pow-le-pow_right}
use Rattle.std.proofs.lemmas.List.{append-nil}
use Rattle.std.proofs.lemmas.List.Elements.{All-push}
use Rattle.std.proofs.lemmas.List.Folds.{concat-append}
use Rattle.std.specs.List.{concat}
use Rattle.std.specs.Prelude.{All, IfSome}
use Rattle.caller_heap.proofs.heap_words.regions_of.Goals as goal

pub loop-r-preserved : goal.loop-r-preserved
loop-r-preserved c =
    let size : ℕ = 2 ^ c.args.size.region_log in
    let before : List (List ℕ) = c.loop-r.regions.items in
    let region : List ℕ = c.in_ok-ok_or.field-0 in
    let first : List ℕ = c.split_at.result.0.now in
    let rest : List ℕ = c.split_at.result.1.now in
    let so_far = c.loop-r.invariant in
    let few : size ≤ 2 ^ 20 = pow-le-pow_right {n = 2} (omega arith) c.requires.log in
    let long : length first ≡ size = omega (arith, few, c.split_at.ensures.front_len) in
    let left : length rest + size ≡ length c.loop-r.rest.now = omega (arith, few, c.split_at.ensures.back_len) in
    let same : region ≡ first = subst (λ o. IfSome o (λ x. x ≡ first)) c.in_ok-ok_or.ensures.ok_part c.take_with.ensures in
    let are : c.push.new.self.items ≡ before ++ (region ∷ []) = c.in_ok-push.ensures.items in
    let more : concat c.push.new.self.items ≡ concat before ++ first =
    ap concat are ∙ concat-append before (region ∷ []) ∙ ap (λ xs. concat before ++ xs) (append-nil region ∙ same) in
    let IsWhole : List ℕ → Type 0 = λ block. length block ≡ size in
    record {
      whole = subst (λ blocks. All IsWhole blocks) (sym are) (All-push IsWhole before region so_far.whole (ap length same ∙ long));
      count = let longer = length-append before (region ∷ []) in ap length are ∙ longer ∙ omega (arith, so_far.count);
      words = ap (λ xs. xs ++ rest) more ∙ append_assoc (concat before) first rest ∙ ap (λ xs. concat before ++ xs) (sym c.split_at.ensures.by_index.0) ∙ so_far.words;
      left = omega (arith, left, so_far.left);
    }
