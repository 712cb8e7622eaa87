use Rattle.std.proofs.Common.{◌∙◌, ap, List, ℕ, ◌++◌, refl, arith}
use Rattle.std.specs.Prelude.{flat_map}
use Rattle.std.specs.List.{range_with_len}
use Rattle.summary.specs.RegionData.{region_data}
use Rattle.summary.specs.declared.region_data.RegionData.{RegionData}
use Rattle.summary.specs.Report.{row_of}
use Rattle.summary.proofs.Lemmas.Regions.{region_at}
use Rattle.summary.proofs.Lemmas.Lines.{flat_map-more}
use Rattle.summary.proofs.report_text.report_of_table.Goals as goal

pub loop-r-preserved : goal.loop-r-preserved
loop-r-preserved c =
    let image = c.args.table.now in
    let r = c.loop-r.r in
    let lines = λ (k : ℕ). row_of k (region_data image k) in
    let number = c.regions-region-items.ensures.number in
    let below = c.loop-r-test.true in
    let region = region_at image c.regions-region-items.result.now c.regions-region-items.ensures.data r r _ (omega arith) refl in
    c.in_ok-write_line.ensures
    ∙ ap (λ (text : List ℕ). text ++ row_of r c.to_data.result) c.loop-r.invariant
    ∙ ap (λ (region : RegionData). flat_map lines (range_with_len 0 r) ++ row_of r region) (c.to_data.ensures ∙ c.region-item.is ∙ region)
    ∙ flat_map-more lines r
