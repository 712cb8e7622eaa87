use Rattle.std.proofs.Common.{◌≡◌, true, ◌++◌, sym, ◌∙◌, ap, subst}
use Rattle.std.proofs.lemmas.Result.{IfErr-weaker}
use Rattle.std.specs.Prelude.{All}
use Rattle.object_heap.specs.Bits.{has}
use Rattle.object_heap.specs.HeapImage.{HasSoundHeader, heap_words}
use Rattle.object_heap.specs.Reachable.{is_listed}
use Rattle.coded_marking.specs.Marking.{Marks, references_by}
use Rattle.coded_marking.specs.Tracing.{IsUnsoundThere}
use Rattle.coded_marking.proofs.Lemmas.Listed.{set_listed}
use Rattle.coded_marking.proofs.Lemmas.Reached.{on_ok_two, marked_within, marks_reached, marks_sound}
use Rattle.coded_marking.proofs.marking.Marking.mark.Goals as goal

pub returns-clause-reached : goal.returns-clause-reached
returns-clause-reached c =
    let image = c.args.heap.now in
    let roots = c.args.roots.now in
    let t0 = c.self.inside.tracing in
    let t = c.trace.new.self in
    let law = c.reachable_is_the_least_closed.ensures in
    let view = ap (λ (m : Marks). m.marked) c.self.view_is in
    let are : t.words ≡ heap_words image = c.trace.ensures.words ∙ ap (λ (m : Marks). m.words) c.self.view_is ∙ sym c.requires in
    on_ok_two c.trace.result
    (λ complete empty earlier same. marks_reached image earlier roots t0 t c.self.invariant c.trace.ensures.steady are c.trace.ensures.underway (view ∙ same) (law.closed image) (law.least image) complete empty (law.ascending image (earlier ++ references_by image roots)))
    c.trace.ensures.complete c.trace.ensures.empty

pub returns-clause-sound : goal.returns-clause-sound
returns-clause-sound c =
    let image = c.args.heap.now in
    let t0 = c.self.inside.tracing in
    let t = c.trace.new.self in
    let view = ap (λ (m : Marks). m.marked) c.self.view_is in
    let are : t.words ≡ heap_words image = c.trace.ensures.words ∙ ap (λ (m : Marks). m.words) c.self.view_is ∙ sym c.requires in
    on_ok_two c.trace.result
    (λ complete empty before. marks_sound image c.args.roots.now t0 t c.self.invariant c.trace.ensures.steady are c.trace.ensures.underway (c.objects_without_faults.ensures.header image) complete empty (subst (All (λ a. HasSoundHeader image a)) (sym view) before))
    c.trace.ensures.complete c.trace.ensures.empty

pub returns-clause-kept : goal.returns-clause-kept
returns-clause-kept c = λ a listed.
    let t0 = c.self.inside.tracing in
    let t = c.trace.new.self in
    let view = ap (λ (m : Marks). m.marked) c.self.view_is in
    let before : has t0.marked a ≡ true = sym (set_listed t0.words t0.marked c.self.invariant.outside a) ∙ ap (λ xs. is_listed xs a) view ∙ listed in
    set_listed t.words t.marked c.trace.ensures.steady.outside a ∙ c.trace.ensures.underway.kept a before

pub returns-clause-within : goal.returns-clause-within
returns-clause-within c = λ earlier same a listed.
    let image = c.args.heap.now in
    let t0 = c.self.inside.tracing in
    let t = c.trace.new.self in
    let law = c.reachable_is_the_least_closed.ensures in
    let view = ap (λ (m : Marks). m.marked) c.self.view_is in
    let are : t.words ≡ heap_words image = c.trace.ensures.words ∙ ap (λ (m : Marks). m.words) c.self.view_is ∙ sym c.requires in
    marked_within image earlier c.args.roots.now t0 t c.self.invariant c.trace.ensures.steady are c.trace.ensures.underway (view ∙ same) (law.closed image) (law.least image) a
    (sym (set_listed t.words t.marked c.trace.ensures.steady.outside a) ∙ listed)

pub returns-clause-unsound : goal.returns-clause-unsound
returns-clause-unsound c =
    let image = c.args.heap.now in
    let t = c.trace.new.self in
    IfErr-weaker c.trace.result (λ e. IsUnsoundThere image t e.address) _ (λ e there. there.unsound) c.trace.ensures.unsound

pub returns-clause-met : goal.returns-clause-met
returns-clause-met c =
    let image = c.args.heap.now in
    let t = c.trace.new.self in
    IfErr-weaker c.trace.result (λ e. IsUnsoundThere image t e.address) _ (λ e there. set_listed t.words t.marked c.trace.ensures.steady.outside e.address ∙ there.marked) c.trace.ensures.unsound
