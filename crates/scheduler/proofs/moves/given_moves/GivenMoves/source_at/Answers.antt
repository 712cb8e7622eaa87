use Rattle.std.proofs.Common.{◌≡◌, ◌≤◌, length, refl, sym, ap, ◌∙◌, subst}
use Rattle.std.proofs.lemmas.Bool.{ltb-false}
use Rattle.scheduler.specs.MoveTable.{MoveTable, IsAscending}
use Rattle.scheduler.proofs.Lemmas.Pairs.{next_past, next_other, next_here}
use Rattle.scheduler.proofs.moves.given_moves.GivenMoves.source_at.Goals as goal

pub returns-in_err-d-clause-least : goal.returns-in_err-d-clause-least
returns-in_err-d-clause-least c =
    let same : c.deref.result.now ≡ c.args.self.now.pairs = c.deref.ensures.value ∙ ap (λ (m : MoveTable). m.pairs) c.self.view_is in
    let past : length c.deref.result.now ≤ c.args.place = ltb-false c.args.place (length c.deref.result.now) (sym c.in_err-d.ensures.lookup.0) in
    rw c.from_residual.ensures (λ from first. next_past c.args.self.now.pairs c.args.destination from c.args.place first (rw (sym same) past))

pub returns-then-d-destination-clause-least : goal.returns-then-d-destination-clause-least
returns-then-d-destination-clause-least c =
    let same : c.deref.result.now ≡ c.args.self.now.pairs = c.deref.ensures.value ∙ ap (λ (m : MoveTable). m.pairs) c.self.view_is in
    let all : IsAscending c.args.self.now.pairs = subst (λ (m : MoveTable). IsAscending m.pairs) c.self.view_is c.self.invariant.ascending in
    let h = c.in_ok-d.ensures.lookup in
    λ from first. next_here c.args.self.now c.args.destination from c.args.place c.in_ok-d.field-0.now.1 c.in_ok-d.field-0.now all first (rw (sym same) h.3.0) (rw (sym same) (sym h.1)) c.if-d-destination.true refl

pub returns-else-d-destination-clause-least : goal.returns-else-d-destination-clause-least
returns-else-d-destination-clause-least c =
    let same : c.deref.result.now ≡ c.args.self.now.pairs = c.deref.ensures.value ∙ ap (λ (m : MoveTable). m.pairs) c.self.view_is in
    let all : IsAscending c.args.self.now.pairs = subst (λ (m : MoveTable). IsAscending m.pairs) c.self.view_is c.self.invariant.ascending in
    let h = c.in_ok-d.ensures.lookup in
    λ from first. next_other c.args.self.now.pairs c.args.destination from c.args.place c.in_ok-d.field-0.now all first (rw (sym same) h.3.0) (rw (sym same) (sym h.1)) c.if-d-destination.false
