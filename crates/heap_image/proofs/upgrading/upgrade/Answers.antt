use Rattle.std.proofs.Common.{sym, ◌∙◌}
use Rattle.heap_image.proofs.Lemmas.Upgrades.{upgraded-same}
use Rattle.heap_image.proofs.upgrading.upgrade.Goals as goal

pub returns-then-has_roots-clause-upgraded : goal.returns-then-has_roots-clause-upgraded
returns-then-has_roots-clause-upgraded c = upgraded-same c.args.image c.version.result c.version.ensures.value c.version.ensures.roots (sym c.has_roots.ensures ∙ c.if-has_roots.true)
