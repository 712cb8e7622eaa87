use Rattle.std.proofs.Common.{rules, ◌≡◌, ℕ, List, length, ◌∙◌}
use Rattle.std.specs.Prelude.{Option}
use Rattle.verification.specs.Searched.{IsItemAlike, item_count}
use Rattle.verification.proofs.Lemmas.Searching.{of_search}
use Rattle.verification.proofs.comparison.Comparison.first_other.Goals as goal

pub returns : goal.returns
returns g c =
    let before = c.args.self.now.before.now in
    let found : List (Option ℕ) = c.search.new.found in
    let long : length found ≡ c.share_count-shares.result = c.search.ensures.count ∙ (search rules) in
    of_search (IsItemAlike c.args.items before c.args.self.now.after.now) (item_count c.args.items before) c.count-count.result c.share_count-shares.result
    c.div_ceil-share.result found c.first_found.result c.count-count.ensures c.share_count-shares.ensures.some c.div_ceil-share.ensures long c.search.ensures.found c.first_found.ensures
