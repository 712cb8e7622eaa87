use Rattle.object_heap.proofs.Lemmas.Layouts.{own-IsLayout, coded-IsLayout, ocaml-IsCoding, scheme48-IsCoding}
use Rattle.object_heap.proofs.laws.layouts_are_lawful.Goals as goal

pub returns : goal.returns
returns c = record { own = own-IsLayout; coded = coded-IsLayout; of_ocaml = ocaml-IsCoding; of_scheme48 = scheme48-IsCoding }
