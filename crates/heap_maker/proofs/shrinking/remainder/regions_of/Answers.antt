use Rattle.std.proofs.Common.{◌≡◌, ◌^◌, ◌++◌, ◌∷◌, [], All, List, ℕ, sym, subst, length}
use Rattle.std.proofs.lemmas.List.Elements.{All-push}
use Rattle.heap_maker.proofs.shrinking.remainder.regions_of.Goals as goal

pub loop-r-preserved : goal.loop-r-preserved
loop-r-preserved c =
    let before : List (List ℕ) = c.loop-r.regions.items in
    let region : List ℕ = c.in_ok-region.region in
    let IsWhole : List ℕ → Type 0 = λ block. length block ≡ 2 ^ c.args.region_log in
    let are : c.push.new.self.items ≡ before ++ (region ∷ []) = c.in_ok-push.ensures.items in
    subst (λ blocks. All IsWhole blocks) (sym are) (All-push IsWhole before region c.loop-r.invariant c.in_ok-region.ensures)
