use Rattle.std.proofs.lemmas.Result.{IfErr-weaker}
use Rattle.heap_image.specs.Checks.{IsMemoryOr}
use Rattle.heap_image.specs.ImageText.{listed_text, from_tail, first_fault, first_some, live_list_faults}
use Rattle.heap_image.specs.Unchecked.{numbers_in}
use Rattle.heap_image.specs.declared.from_regions.RefusedRegions.{RefusedRegions}
use Rattle.heap_image.proofs.Lemmas.Unchecked.{list_reason}
use Rattle.heap_image.proofs.shared_check.begin_check.Goals as goal

pub returns-in-Ok-clause-fault : goal.returns-in-Ok-clause-fault
returns-in-Ok-clause-fault g c =
    let version = c.args.parts.version in
    let image = numbers_in c.args.parts in
    IfErr-weaker c.into_check.result (λ (refused : RefusedRegions). IsMemoryOr (first_some (live_list_faults (from_tail version image))) refused.fault) (λ refused. IsMemoryOr (first_fault (listed_text version image)) refused.fault) (λ refused why. list_reason version image c.in-Ok.ensures.fits refused.fault why) c.into_check.ensures.fault
