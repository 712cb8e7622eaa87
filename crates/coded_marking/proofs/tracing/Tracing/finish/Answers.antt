use Rattle.coded_marking.proofs.Lemmas.Drained.{left_falls}
use Rattle.coded_marking.proofs.tracing.Tracing.finish.Goals as goal

pub loop-self-smaller : goal.loop-self-smaller
loop-self-smaller c =
    left_falls c.loop-self.self c.sweep.new.self c.loop-self-test.true c.sweep.ensures.words c.sweep.ensures.keeps c.in_ok-sweep.ensures.gets_on
