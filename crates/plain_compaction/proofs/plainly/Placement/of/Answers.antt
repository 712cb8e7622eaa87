use Rattle.std.proofs.Common.{◌∙◌, ap}
use Rattle.std.proofs.lemmas.List.{take_all}
use Rattle.std.specs.Prelude.{map}
use Rattle.summary.specs.NewAddresses.{new_address, next_at}
use Rattle.plain_compaction.proofs.Lemmas.Words.{next_at-top}
use Rattle.plain_compaction.proofs.plainly.Placement.of.Goals as goal

pub returns : goal.returns
returns c =
    let image = c.args.image.now in
    let all = c.loop-a-test.false in
    record {
      prefix = c.prefix_end-prefix.ensures;
      live = c.loop-a.invariant ∙ ap (map (new_address image)) (take_all c.loop-a.a-index c.live-a-items.result.now all ∙ c.live-a-items.ensures.value);
      top = c.next_at.ensures.value ∙ ap (next_at image) c.len.ensures.value ∙ next_at-top image c.len.ensures.valid.live_list;
    }
