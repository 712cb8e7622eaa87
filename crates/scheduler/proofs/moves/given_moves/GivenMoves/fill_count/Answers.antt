use Rattle.std.proofs.Common.{Bool, List, ap, ◌∙◌}
use Rattle.std.specs.Prelude.{count_by}
use Rattle.scheduler.specs.MoveTable.{table_of}
use Rattle.scheduler.proofs.Lemmas.Openings.{unsettled-opening}
use Rattle.scheduler.proofs.moves.given_moves.GivenMoves.fill_count.Goals as goal

pub returns-clause-opening : goal.returns-clause-opening
returns-clause-opening c =
    rw (← c.self.view_is)
    (c.count_set.ensures ∙ (ap (λ (flags : List Bool). count_by (λ flag. flag) flags) c.deref.ensures.value ∙ unsettled-opening (table_of c.self.inside.fill.items c.self.inside.pairs.items)))
