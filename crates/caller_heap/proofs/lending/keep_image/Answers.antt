use Rattle.std.proofs.Common.{◌≡◌, ◌≤◌, length, map, vec_len, sym, ◌∙◌, ap, arith}
use Rattle.std.proofs.lemmas.List.Elements.{All-take}
use Rattle.std.proofs.lemmas.List.FromFn.{length-map-range_with_len}
use Rattle.std.proofs.lemmas.Result.{IfOk-weaker}
use Rattle.object_heap.specs.HeapImage.{block_of, region_count}
use Rattle.caller_heap.specs.Lent.{IsGone, held}
use Rattle.caller_heap.proofs.Lemmas.LentHeap.{all_told}
use Rattle.caller_heap.proofs.lending.keep_image.Goals as goal

pub keep_all-requires-clause-few : goal.keep_all-requires-clause-few
keep_all-requires-clause-few c =
    let image = c.args.image in
    let many : length c.into_parts.result.regions.items ≡ region_count image =
    ap length c.into_parts.ensures.blocks ∙ length-map-range_with_len (block_of image) 0 (region_count image) in
    let ok : length c.into_parts.result.regions.items ≡ vec_len c.into_parts.result.regions = sym c.into_parts.result.regions.ok.0 in
    let count = c.requires.count in
    omega arith

pub keep_all-requires-clause-gone : goal.keep_all-requires-clause-gone
keep_all-requires-clause-gone c = All-take IsGone (vec_len c.into_parts.result.regions) c.args.words.now c.requires.gone

pub returns-clause-kept : goal.returns-clause-kept
returns-clause-kept c =
    let image = c.args.image in
    let regions = c.into_parts.result.regions in
    let many : length regions.items ≡ region_count image =
    ap length c.into_parts.ensures.blocks ∙ length-map-range_with_len (block_of image) 0 (region_count image) in
    let ok : length regions.items ≡ vec_len regions = sym regions.ok.0 in
    let count = c.requires.count in
    let all : length c.args.words.now ≤ vec_len regions = omega arith in
    IfOk-weaker c.keep_all.result _ _
    (λ _ kept. all_told c.keep_all.new.words c.args.words.now regions.items (vec_len regions) all kept ∙ ap (map held) c.into_parts.ensures.blocks)
    c.keep_all.ensures.kept
