use Rattle.std.proofs.Common.{◌+◌, ◌∙◌, ap, leb}
use Rattle.object_coding.specs.LayoutFault.{is_narrow}
use Rattle.object_coding.proofs.Lemmas.Faults.{narrow_by_bits}
use Rattle.object_coding.proofs.object_layout.ObjectLayout.is_narrow.Goals as goal

pub returns-clause-value : goal.returns-clause-value
unfolding is_narrow
returns-clause-value c =
    let layout = c.args.self.now in
    ap (λ bits. leb bits (c.from-2.result + 31)) c.from.ensures
    ∙ ap (λ unit. leb layout.size_bits (unit + 31)) c.from-2.ensures
    ∙ narrow_by_bits layout.size_bits layout.size_unit
