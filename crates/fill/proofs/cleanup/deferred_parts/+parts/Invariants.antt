use Rattle.std.proofs.Common.{◌+◌, ◌*◌}
use Rattle.fill.proofs.cleanup.deferred_parts.+parts.Given as goal

-- the number of threads falls with each call of `update`; `update_both` and a closure lie between two such calls
abbrev pub decreases-DeferredParts::update : goal.decreases-DeferredParts::update
decreases-DeferredParts::update g l = 3 * l.most + 1

abbrev pub decreases-DeferredParts::update_both : goal.decreases-DeferredParts::update_both
decreases-DeferredParts::update_both g l = 3 * l.most

abbrev pub decreases-DeferredParts::update_both-upper : goal.decreases-DeferredParts::update_both-upper
decreases-DeferredParts::update_both-upper g l = 3 * l.others + 2

abbrev pub decreases-DeferredParts::update_both-lower : goal.decreases-DeferredParts::update_both-lower
decreases-DeferredParts::update_both-lower g l = 5
