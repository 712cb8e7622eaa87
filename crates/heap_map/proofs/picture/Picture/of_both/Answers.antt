use Rattle.std.proofs.Common.{subst}
use Rattle.heap_map.specs.MapFigures.{AreFiguresOf}
use Rattle.heap_map.proofs.picture.Picture.of_both.Goals as goal

pub returns-clause-figures : goal.returns-clause-figures
returns-clause-figures c = subst (λ h. AreFiguresOf h c.of.result) c.requires.same c.of.ensures
