use Rattle.object_coding.proofs.Lemmas.Hosts.{scheme48_is_faultless}
use Rattle.object_coding.proofs.object_layout.ObjectLayout.scheme48.Goals as goal

pub returns-clause-fits : goal.returns-clause-fits
returns-clause-fits c = λ words room. scheme48_is_faultless c.args.start words c.scheme48_modes.result c.scheme48_modes.ensures room
