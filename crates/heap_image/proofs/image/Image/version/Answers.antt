use Rattle.std.proofs.Common.{ap, sym, ◌∙◌, subst}
use Rattle.object_heap.specs.HeapImage.{HeapImage, IsValid}
use Rattle.object_heap.specs.Version.{has_roots}
use Rattle.heap_image.proofs.image.Image.version.Goals as goal

pub returns-clause-roots : goal.returns-clause-roots
returns-clause-roots c = (subst IsValid c.self.view_is c.self.invariant.parts.valid).versioned ∙ ap has_roots (sym (ap (λ (i : HeapImage). i.version) c.self.view_is))
