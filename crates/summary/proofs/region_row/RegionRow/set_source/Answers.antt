use Rattle.std.proofs.Common.{◌≡◌, ℕ, suc, ◌+◌, Option, ◌∙◌, ap, arith}
use Rattle.std.specs.Prelude.{Some}
use Rattle.summary.specs.RegionRow.{source_of}
use Rattle.summary.specs.declared.region_data.RegionData.{RegionData}
use Rattle.summary.proofs.region_row.RegionRow.set_source.Goals as goal

counted : (s : ℕ) → source_of (s + 1) ≡ Some s
counted s = ap source_of (let next : s + 1 ≡ suc s = omega arith in next)

pub returns : goal.returns
returns c =
    let row = c.self.inside in
    ap (λ (s : Option ℕ). record { partial = row.partial; live = row.live; destination = row.destination; count = row.count; source = s }) (counted c.args.source)
    ∙ ap (λ (k : RegionData). record k { source = Some c.args.source }) c.self.view_is
