use Rattle.std.proofs.Common.{◌≡◌, ◌∙◌}
use Rattle.verification.proofs.comparison_explained.WordComparison.other_root.Goals as goal

pub redirected-expected-requires : goal.redirected-expected-requires
redirected-expected-requires c =
    let same : c.plan.result.now ≡ c.args.self.now.before.now = (c.plan.ensures ∙ c.args.self.now.survey_of) in
    rw same (c.roots-root-items.ensures.live c.loop-i.i 0 c.loop-i-test.true)
