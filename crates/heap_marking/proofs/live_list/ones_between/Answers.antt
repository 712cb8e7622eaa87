use Rattle.std.proofs.Common.{◌∙◌}
use Rattle.heap_marking.proofs.Lemmas.Ones.{length-between}
use Rattle.heap_marking.proofs.live_list.ones_between.Goals as goal

pub returns : goal.returns
returns c = c.ones_of.ensures ∙ length-between c.args.words.now c.args.first c.args.last c.requires.ordered c.requires.inside
