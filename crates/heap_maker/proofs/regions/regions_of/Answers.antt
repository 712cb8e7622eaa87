use Rattle.std.proofs.Common.{◌≡◌, ◌<◌, ◌^◌, ◌*◌, ◌++◌, ◌∷◌, ◌∙◌, [], All, List, ℕ, ap, sym, subst, length, length-append, arith}
use Rattle.std.proofs.lemmas.List.{append-nil}
use Rattle.std.proofs.lemmas.List.Elements.{All-append, All-push}
use Rattle.std.proofs.lemmas.List.Folds.{concat-append}
use Rattle.std.specs.List.{concat}
use Rattle.heap_maker.proofs.regions.regions_of.Goals as goal

pub loop-r-preserved : goal.loop-r-preserved
loop-r-preserved c =
    let before : List (List ℕ) = c.loop-r.regions.items in
    let region : List ℕ = c.in_ok-region.region in
    let are : c.push.new.self.items ≡ before ++ (region ∷ []) = c.in_ok-push.ensures.items in
    let more : concat c.push.new.self.items ≡ concat before ++ region =
    ap concat are ∙ concat-append before (region ∷ []) ∙ ap (λ xs. concat before ++ xs) (append-nil region) in
    let so_far = c.loop-r.invariant in
    let IsWhole : List ℕ → Type 0 = λ block. length block ≡ 2 ^ c.args.limits.region_log in
    let fits : ℕ → Type 0 = λ w. w < 2 ^ 64 in
    record {
      whole = subst (λ blocks. All IsWhole blocks) (sym are) (All-push IsWhole before region so_far.whole c.in_ok-region.ensures.whole);
      count = let longer = length-append before (region ∷ []) in ap length are ∙ longer ∙ omega (arith, so_far.count);
      fit = subst (λ ws. All fits ws) (sym more) (All-append fits (concat before) region so_far.fit c.in_ok-region.ensures.fit);
    }

pub returns-clause-count : goal.returns-clause-count
returns-clause-count c =
    let so_far = c.loop-r.invariant in
    let long = c.blocks_joined.ensures.words c.args.limits.region_log c.loop-r.regions.items so_far.whole in
    let count : length c.loop-r.regions.items ≡ c.args.limits.regions = omega (arith, so_far.count) in
    long ∙ ap (λ n. n * 2 ^ c.args.limits.region_log) count ∙ sym c.args.limits.whole
