use Rattle.std.proofs.Common.{ℕ, ◌*◌, ◌≤◌, ◌∙◌, ap, arith}
use Rattle.std.specs.Prelude.{map}
use Rattle.std.specs.List.{range_with_len}
use Rattle.summary.specs.Compaction.{compacted_word}
use Rattle.history.proofs.Lemmas.Regions.{map-from}
use Rattle.history.proofs.machine.carrier.Carrier.finished_region.Goals as goal

pub returns : goal.returns
returns c =
    let image = c.args.self.now.plan.now in
    let n : ℕ = c.region_words-len.result in
    let all : n ≤ c.loop-i.i = c.loop-i-test.false in
    map-from (compacted_word image) c.loop-i.region (c.from.result * n) n c.loop-i.invariant.0 (λ k l. c.loop-i.invariant.1 k (omega arith))
    ∙ ap (λ (r : ℕ). map (compacted_word image) (range_with_len (r * n) n)) c.from.ensures
    ∙ ap (λ (m : ℕ). map (compacted_word image) (range_with_len (c.args.r * m) m)) c.region_words-len.ensures.value
