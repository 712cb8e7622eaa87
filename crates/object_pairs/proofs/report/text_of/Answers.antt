use Rattle.std.proofs.Common.{rules}
use Rattle.object_pairs.proofs.report.text_of.Goals as goal

pub returns : goal.returns
returns c = (c.args.details.now, search rules)
