use Rattle.std.proofs.Common.{◌≡◌, ◌∙◌, ℕ, ap, arith}
use Rattle.object_heap.specs.Layout.{scheme48}
use Rattle.pcompact_c.proofs.layout.pcompact_scheme48_layout.Goals as goal

pub returns : goal.returns
returns c fits words =
    let same : c.min.result ≡ c.args.start = let least = c.min.ensures in omega (arith, least, fits) in
    c.scheme48.ensures.value words ∙ ap (λ (s : ℕ). scheme48 s words) same
