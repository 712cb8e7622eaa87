use Rattle.std.proofs.Common.{◌≤◌, sym, ◌∙◌, ap, subst}
use Rattle.object_heap.specs.Reachable.{is_listed}
use Rattle.coded_marking.specs.Marking.{Marks}
use Rattle.coded_marking.proofs.Lemmas.Listed.{set_listed}
use Rattle.coded_marking.proofs.marking.Marking.is_reached.Goals as goal

pub returns-clause-value : goal.returns-clause-value
returns-clause-value c =
    let t = c.self.inside.tracing in
    c.contains.ensures
    ∙ sym (set_listed t.words t.marked c.self.invariant.outside c.args.address)
    ∙ ap (λ (m : Marks). is_listed m.marked c.args.address) c.self.view_is

pub returns-clause-outside : goal.returns-clause-outside
returns-clause-outside c = λ high.
    c.contains.ensures ∙ c.self.invariant.outside c.args.address (subst (λ n. n ≤ c.args.address) (sym (ap (λ (m : Marks). m.words) c.self.view_is)) high)
