use Rattle.heap_marking.proofs.Lemmas.MarkingSteps.{marking_last, marking_last-well}
use Rattle.heap_marking.proofs.marking.Marking.finish.Goals as goal

pub returns : goal.returns
returns c = λ roots m.
    let image = c.args.heap.now in
    let least = c.reachable_is_the_least_closed.ensures.least image roots in
    let last = c.in_ok-follow_all.ensures roots m.marking in
    record {
      reached = marking_last image roots least c.follow_all.new.self.bits c.follow_all.new.self.well_formed last;
      well_formed = marking_last-well image roots least c.follow_all.new.self.bits c.follow_all.new.self.well_formed last;
    }
