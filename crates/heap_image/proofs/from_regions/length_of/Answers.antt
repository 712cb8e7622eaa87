use Rattle.std.proofs.Common.{◌<◌, ◌^◌, arith}
use Rattle.std.proofs.lemmas.List.Elements.{All-from_get_or}
use Rattle.heap_image.proofs.from_regions.length_of.Goals as goal

pub returns-clause-fit : goal.returns-clause-fit
returns-clause-fit c = All-from_get_or (λ w. w < 2 ^ 64) c.args.words.now 0 (λ i _. omega (arith, c.type_inv.words i))
