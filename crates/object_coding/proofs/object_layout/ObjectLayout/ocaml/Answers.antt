use Rattle.object_coding.proofs.Lemmas.Hosts.{ocaml_is_faultless}
use Rattle.object_coding.proofs.object_layout.ObjectLayout.ocaml.Goals as goal

pub returns-clause-fits : goal.returns-clause-fits
returns-clause-fits c = λ words room. ocaml_is_faultless c.args.start words c.ocaml_modes.result c.ocaml_modes.ensures room
