use Rattle.std.proofs.Common.{◌≡◌, ◌+◌, ◌*◌, ◌∙◌, ap, arith}
use Rattle.std.specs.Prelude.{max, min, length}
use Rattle.object_heap.specs.HeapImage.{start_of, region_words}
use Rattle.summary.proofs.Lemmas.SourceRows.{table_in_order, sources_of_table}
use Rattle.summary.proofs.reads.Reads.of.Goals as goal

pub invariant_of-result : goal.invariant_of-result
invariant_of-result c =
    let least = c.min.ensures in
    (omega arith, table_in_order c.args.table.now c.regions-regions.ensures.valid c.regions-regions.result.now c.regions-regions.ensures.data)

pub returns : goal.returns
returns c =
    let image = c.args.table.now in
    let d = c.args.d in
    let words = c.region_words.ensures.value in
    let n = c.from.ensures in
    let end : (c.from.result + 1) * c.region_words.result ≡ start_of image d + region_words image =
    ap (λ m. (m + 1) * c.region_words.result) n ∙ ap (λ m. (d + 1) * m) words ∙ omega arith in
    let next : c.min.result ≡ min (max c.first_read.result c.args.from) (length c.regions-regions.result.now) = c.min.ensures ∙ ap (λ m. min m (length c.regions-regions.result.now)) c.max-first.ensures in
    sources_of_table image c.regions-regions.ensures.valid c.regions-regions.result.now c.regions-regions.ensures.data d c.first_read.result c.args.from c.min.result ((c.from.result + 1) * c.region_words.result) c.first_read.ensures end next
