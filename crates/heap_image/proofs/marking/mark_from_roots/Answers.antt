use Rattle.std.proofs.Common.{◌≡◌, subst}
use Rattle.std.specs.Prelude.{IfOk}
use Rattle.object_heap.specs.declared.version.Version.TheVariants.{Two}
use Rattle.object_heap.specs.HeapImage.{HeapImage, reachable, with_live}
use Rattle.heap_image.specs.Checks.{MayReport}
use Rattle.heap_image.specs.ImageText.{first_some, live_list_faults, from_tail}
use Rattle.heap_image.proofs.marking.mark_from_roots.Goals as goal

pub returns-clause-live : goal.returns-clause-live
returns-clause-live g c = subst (λ (heap : HeapImage). IfOk c.find_and_check.result (λ live. live.items ≡ reachable heap c.args.roots.now)) c.new-heap.ensures c.find_and_check.ensures.live

pub returns-clause-faults : goal.returns-clause-faults
returns-clause-faults g c = subst (λ (heap : HeapImage). MayReport c.find_and_check.result (first_some (live_list_faults (from_tail Two (with_live heap c.args.roots.now))))) c.new-heap.ensures c.find_and_check.ensures.faults
