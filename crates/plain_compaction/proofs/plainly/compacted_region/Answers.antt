use Rattle.std.proofs.Common.{◌≡◌, ℕ, ◌+◌, ◌*◌, ◌≤◌, ◌<◌, length, ◌∙◌, ap, arith}
use Rattle.std.proofs.Math.ListN.{set, length-set}
use Rattle.std.proofs.lemmas.List.Edits.{fill_by_more}
use Rattle.std.specs.Prelude.{map}
use Rattle.std.specs.List.{range_with_len}
use Rattle.summary.specs.Compaction.{compacted_word}
use Rattle.plain_compaction.proofs.Lemmas.Counts.{map-from}
use Rattle.plain_compaction.proofs.plainly.compacted_region.Goals as goal

pub loop-i-preserved : goal.loop-i-preserved
loop-i-preserved c =
    let image = c.args.image.now in
    let i = c.loop-i.i in
    let start : ℕ = c.from.result * c.region_words-len.result in
    let long : length c.loop-i.region ≡ c.region_words-len.result = c.loop-i.invariant.0 in
    let below = c.loop-i-test.true in
    let inside : i < length c.loop-i.region = omega arith in
    let is : c.set.new.self ≡ set c.loop-i.region i (compacted_word image (start + i)) = c.set.ensures.value ∙ ap (set c.loop-i.region i) c.compacted_word.ensures in
    rw is (length-set c.loop-i.region i (compacted_word image (start + i)) ∙ long, fill_by_more (λ k. compacted_word image (start + k)) c.loop-i.region i 0 inside c.loop-i.invariant.1)

pub returns : goal.returns
returns c =
    let image = c.args.image.now in
    let n = c.region_words-len.result in
    let all : n ≤ c.loop-i.i = c.loop-i-test.false in
    map-from (compacted_word image) c.loop-i.region (c.from.result * n) n c.loop-i.invariant.0 (λ k l. c.loop-i.invariant.1 k (omega arith))
    ∙ ap (λ r. map (compacted_word image) (range_with_len (r * n) n)) c.from.ensures
    ∙ ap (λ m. map (compacted_word image) (range_with_len (c.args.r * m) m)) c.region_words-len.ensures.value
