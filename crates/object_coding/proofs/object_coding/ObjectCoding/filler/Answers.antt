use Rattle.std.proofs.Common.{◌∙◌, ap, arith}
use Rattle.object_heap.specs.Layout.{Coding, coded_filler}
use Rattle.object_coding.specs.ObjectLayout.{coding_of}
use Rattle.object_coding.proofs.Lemmas.Fillers.{filler_fits, filler_is}
use Rattle.object_coding.proofs.object_coding.ObjectCoding.filler.Goals as goal

pub overflow_add-result : goal.overflow_add-result
overflow_add-result c =
    let fit = c.self.invariant in
    let fits = filler_fits (coding_of c.self.inside.layout c.self.inside.words) c.self.inside.words c.args.size c.saturating_sub-units.result fit.lawful fit.headers.of_size.bits_low fit.headers.of_size.inside (omega arith) c.requires c.saturating_sub-units.ensures in
    omega arith

pub returns : goal.returns
returns c =
    let fit = c.self.invariant in
    filler_is (coding_of c.self.inside.layout c.self.inside.words) c.self.inside.words c.args.size c.saturating_sub-units.result fit.lawful fit.headers.of_size.bits_low fit.headers.of_size.inside (omega arith) c.requires c.saturating_sub-units.ensures
    ∙ ap (λ (k : Coding). coded_filler k c.args.size) c.self.view_is
