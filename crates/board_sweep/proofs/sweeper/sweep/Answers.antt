use Rattle.std.proofs.Common.{◌∙◌}
use Rattle.claim_board.specs.Boards.{mine}
use Rattle.board_sweep.proofs.Lemmas.Sweeping.{swept-one_more}
use Rattle.board_sweep.proofs.sweeper.sweep.Goals as goal

pub loop-region-preserved : goal.loop-region-preserved
loop-region-preserved g c =
    let i = c.loop-region.invariant in
    let v = c.visit-tally.ensures in
    let more = swept-one_more c.loop-region.region (mine c.loop-region.pass) (mine c.visit-tally.new.pass) c.loop-region.tallies.items c.push.new.self.items c.visit-tally.result i.2 (i.3, i.4) v.tally c.in_ok-push.ensures.items in
    (v.board ∙ i.0, v.worker ∙ i.1, more.0, more.1, more.2)
