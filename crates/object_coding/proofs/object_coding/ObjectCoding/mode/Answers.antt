use Rattle.std.proofs.Common.{◌/◌, ◌%◌, ◌^◌, sym, ◌∙◌, ap, slice_index_or}
use Rattle.std.proofs.lemmas.List.{get_or-take}
use Rattle.std.proofs.lemmas.Nat.{mod_below, pow_pos}
use Rattle.object_heap.specs.Layout.{Coding, coded_mode}
use Rattle.object_coding.proofs.Lemmas.Fields.{masked}
use Rattle.object_coding.proofs.object_coding.ObjectCoding.mode.Goals as goal

pub returns : goal.returns
returns c =
    let layout = c.self.inside.layout in
    let types = 2 ^ layout.type_bits in
    let shifted = c.args.header / 2 ^ layout.type_shift in
    ap (λ i. slice_index_or layout.modes i 0) (masked shifted layout.type_bits c.self.inside.type_mask c.self.invariant.of_type)
    ∙ sym (get_or-take types layout.modes (shifted % types) 0 (mod_below shifted types (pow_pos layout.type_bits)))
    ∙ ap (λ (k : Coding). coded_mode k c.args.header) c.self.view_is
