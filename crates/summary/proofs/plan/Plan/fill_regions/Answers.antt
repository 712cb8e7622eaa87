use Rattle.std.proofs.Common.{◌≡◌, ◌∙◌, ap, arith}
use Rattle.std.specs.Int.{div_ceil}
use Rattle.summary.specs.RegionData.{fill_count}
use Rattle.summary.proofs.Lemmas.Steps.{fill_count-le}
use Rattle.summary.proofs.plan.Plan.fill_regions.Goals as goal

pub overflow_cast-result : goal.overflow_cast-result
overflow_cast-result c =
    let image = c.self.inside.table in
    let valid = c.new_top.ensures.valid in
    let is : c.div_ceil.result ≡ fill_count image = c.div_ceil.ensures ∙ ap (λ n. div_ceil n c.region_words.result) c.new_top.ensures.value ∙ ap (div_ceil _) c.region_words.ensures.value in
    let few = fill_count-le image valid in
    let regions = valid.limits.few_regions in
    omega arith
