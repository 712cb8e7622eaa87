use Rattle.std.proofs.Common.{length, arith}
use Rattle.fill.proofs.Lemmas.Parts.{split_part, join_parts}
use Rattle.fill.proofs.cleanup.deferred_parts.+parts.Goals as goal

pub DeferredParts::update-update_both-requires-clause-low : goal.DeferredParts::update-update_both-requires-clause-low
DeferredParts::update-update_both-requires-clause-low g t c κs within =
    let split = c.split_at_mut-low in
    let cut = split.ensures in
    (split_part c.args.self.now.plan.now c.args.first c.in-Some.cut c.args.regions.now split.result.0.now split.result.1.now c.requires c.in-Some.ensures.cut.1 cut.front cut.back cut.front_len cut.back_len).0

pub DeferredParts::update-update_both-requires-clause-high : goal.DeferredParts::update-update_both-requires-clause-high
DeferredParts::update-update_both-requires-clause-high g t c κs within =
    let split = c.split_at_mut-low in
    let cut = split.ensures in
    (split_part c.args.self.now.plan.now c.args.first c.in-Some.cut c.args.regions.now split.result.0.now split.result.1.now c.requires c.in-Some.ensures.cut.1 cut.front cut.back cut.front_len cut.back_len).1

pub DeferredParts::update-returns-in-Some : goal.DeferredParts::update-returns-in-Some
DeferredParts::update-returns-in-Some g t c =
    let split = c.split_at_mut-low in
    join_parts c.args.self.now.plan.now c.args.first (length split.result.0.now) (length split.result.1.now) (length c.args.regions.now) c.update_both.new.low c.update_both.new.high
    (omega (arith, split.ensures.front_len, split.ensures.back_len)) c.update_both.ensures.low c.update_both.ensures.high
