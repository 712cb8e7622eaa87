use Rattle.std.proofs.Common.{Bool, ap, subst}
use Rattle.std.specs.Option.{is_some}
use Rattle.fill.specs.KeptImages.{KeepsImage, Keeps}
use Rattle.collector.proofs.session.Session.finish.Goals as goal

pub clean_up-requires-clause-parts : goal.clean_up-requires-clause-parts
clean_up-requires-clause-parts c = c.args.self.shared.rest c.in_ok-parts.parts c.in_ok-parts.was

pub clean_up-requires-clause-moved : goal.clean_up-requires-clause-moved
clean_up-requires-clause-moved c =
    let shared = c.args.self.shared in
    let keeps : KeepsImage shared.survey shared.desk = subst (λ (redirects : Bool). Keeps redirects shared.survey shared.desk) (ap is_some c.in_ok-parts.was) shared.keeps in
    (shared.desk, keeps, c.in_ok-moved.ensures.count, c.in_ok-moved.ensures.words)
