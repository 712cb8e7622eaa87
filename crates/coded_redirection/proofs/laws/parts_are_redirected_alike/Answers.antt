use Rattle.coded_redirection.proofs.laws.parts_are_redirected_alike.Goals as goal
use Rattle.coded_redirection.proofs.Lemmas.Parts.{redirected-in_part}

pub returns : goal.returns
returns c = λ image coding first dead part words shows apart. redirected-in_part image coding first part words shows apart dead
