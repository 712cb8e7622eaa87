use Rattle.std.proofs.Common.{[]}
use Rattle.object_heap.specs.HeapImage.{image_of}
use Rattle.heap_image.proofs.shared_check.prepare.Goals as goal

pub returns-clause-references : goal.returns-clause-references
returns-clause-references c = c.in_ok-references.ensures (image_of c.args.region_log 0 c.args.regions.now.items []) c.requires
