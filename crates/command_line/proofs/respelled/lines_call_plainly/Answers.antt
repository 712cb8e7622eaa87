use Rattle.std.proofs.Common.{List, [], ◌∷◌, codes, refl}
use Rattle.clap.proofs.OnLiterals.{clap_on_literals}
use Rattle.clap.specs.Walk.{Text}
use Rattle.command_line.proofs.Lemmas.Calls.{refused_for_a_value}
use Rattle.command_line.proofs.respelled.lines_call_plainly.Goals as goal

abbrev order_line : List Text
order_line = codes "order" ∷ codes "heap.pcheap" ∷ codes "--json" ∷ codes "--verbose=always" ∷ []

pub returns-clause-order : goal.returns-clause-order
unfolding clap_on_literals
returns-clause-order c = (refused_for_a_value order_line refl, (refl, refl))

abbrev import_line : List Text
import_line =
    codes "import" ∷ codes "--progress=never" ∷ codes "heap.hprof" ∷ codes "heap.pcheap" ∷ codes "--histogram" ∷ codes "3" ∷ []

pub returns-clause-import : goal.returns-clause-import
unfolding clap_on_literals
returns-clause-import c = (refused_for_a_value import_line refl, (refl, refl))
