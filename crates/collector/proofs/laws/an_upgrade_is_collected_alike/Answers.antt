use Rattle.collector.proofs.Lemmas.Upgrades.{collected_alike}
use Rattle.collector.proofs.laws.an_upgrade_is_collected_alike.Goals as goal

pub returns-clause-whole : goal.returns-clause-whole
returns-clause-whole c = collected_alike
