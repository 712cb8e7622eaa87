use Rattle.std.proofs.Common.{ℕ, Option, sym, ap}
use Rattle.summary.proofs.region_row.RegionRow.without_source.Goals as goal

pub returns : goal.returns
returns c =
    let region = c.args.region in
    ap (λ (s : Option ℕ). record { partial = region.partial; live = region.live; destination = region.destination; count = region.count; source = s }) (sym c.requires)
