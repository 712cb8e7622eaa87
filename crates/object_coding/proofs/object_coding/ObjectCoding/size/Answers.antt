use Rattle.std.proofs.Common.{◌+◌, ◌/◌, ◌^◌, ◌∙◌, ap}
use Rattle.object_heap.specs.Layout.{coded_size}
use Rattle.object_coding.proofs.Lemmas.Fields.{masked}
use Rattle.object_coding.proofs.object_coding.ObjectCoding.size.Goals as goal

pub returns : goal.returns
returns c =
    let layout = c.self.inside.layout in
    ap (λ n. (n + layout.size_more) / 2 ^ layout.size_unit) (masked (c.args.header / 2 ^ layout.size_shift) layout.size_bits c.self.inside.size_mask c.self.invariant.of_size)
    ∙ ap (λ k. coded_size k c.args.header) c.self.view_is
