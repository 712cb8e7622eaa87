use Rattle.std.proofs.Common.{◌/◌, ◌^◌, ap, eqb}
use Rattle.object_coding.specs.LayoutFault.{clears_size}
use Rattle.object_coding.proofs.Lemmas.Fields.{masked, mask_is}
use Rattle.object_coding.proofs.object_layout.ObjectLayout.clears_size.Goals as goal

pub returns : goal.returns
unfolding clears_size
returns c =
    let layout = c.args.self.now in
    ap (λ n. eqb n 0) (masked (layout.filler_tag / 2 ^ layout.size_shift) layout.size_bits _ (mask_is layout.size_bits c.requires.bits))
