use Rattle.std.proofs.Common.{◌≡◌, false, ◌<◌, sym, ◌∙◌, subst}
use Rattle.object_heap.specs.HeapImage.{is_unsound, refers_to}
use Rattle.coded_marking.specs.Tracing.{leads_any}
use Rattle.coded_marking.proofs.Lemmas.Growth.{marked_inside, grows_as, grows_beside, steady_follow}
use Rattle.coded_marking.proofs.Lemmas.References.{refers_by_words}
use Rattle.coded_marking.proofs.tracing.Tracing.follow.Goals as goal

pub is_unsound-requires-clause-inside : goal.is_unsound-requires-clause-inside
is_unsound-requires-clause-inside c =
    subst (λ n. c.args.object.address < n) c.requires.words (marked_inside c.args.self.now c.requires.steady c.args.object.address c.requires.fetched.marked)

pub visit_all-requires-clause-steady : goal.visit_all-requires-clause-steady
visit_all-requires-clause-steady c =
    steady_follow c.args.self.now c.args.object.address c.insert.new.self c.requires.steady c.requires.fetched.marked c.insert.ensures.room c.insert.ensures.bits

pub returns-clause-growth : goal.returns-clause-growth
returns-clause-growth c =
    let image = c.args.heap.now in
    let a = c.args.object.address in
    let row = c.referring.result.now in
    let sound : is_unsound image a ≡ false = sym c.is_unsound.ensures ∙ c.if-is_unsound.false in
    grows_as (leads_any image.layout row) (refers_to image a) c.args.self.now c.visit_all.new.self (refers_by_words image a row sound c.referring.ensures.words c.referring.ensures.count)
    (grows_beside (leads_any image.layout row) c.args.self.now c.insert.new.self c.visit_all.new.self c.visit_all.ensures.growth)
