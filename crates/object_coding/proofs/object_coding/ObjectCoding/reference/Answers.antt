use Rattle.std.proofs.Common.{◌<◌, ◌≤◌, ◌+◌, ◌-◌, ◌%◌, sym, ◌∙◌, ap, subst, arith, w64}
use Rattle.std.specs.Int.{rotate_right}
use Rattle.object_heap.specs.Layout.{coded_reference}
use Rattle.object_coding.specs.ObjectLayout.{coding_of}
use Rattle.object_coding.proofs.Lemmas.References.{leads, leads_not}
use Rattle.object_coding.proofs.object_coding.ObjectCoding.reference.Goals as goal

pub returns-then-address-self : goal.returns-then-address-self
returns-then-address-self c =
    let layout = c.self.inside.layout in
    let w = c.args.word in
    let turned = c.rotate_right-address.ensures ∙ ap (λ u. rotate_right w64 ((w + (18446744073709551616 - layout.base)) % 18446744073709551616) u) c.from.ensures in
    ap (λ n. n + 1) turned
    ∙ sym (leads (coding_of layout c.self.inside.words) w c.self.invariant.lawful.room c.self.invariant.headers.unit_low c.ranges.word.fits (omega arith) (subst (λ n. n < c.self.inside.words) turned c.if-address-self.true))
    ∙ ap (λ k. coded_reference k w) c.self.view_is

pub returns-else-address-self : goal.returns-else-address-self
returns-else-address-self c =
    let layout = c.self.inside.layout in
    let w = c.args.word in
    let turned = c.rotate_right-address.ensures ∙ ap (λ u. rotate_right w64 ((w + (18446744073709551616 - layout.base)) % 18446744073709551616) u) c.from.ensures in
    sym (leads_not (coding_of layout c.self.inside.words) w c.self.invariant.lawful.room c.self.invariant.headers.unit_low c.ranges.word.fits (omega arith) (subst (λ n. c.self.inside.words ≤ n) turned c.if-address-self.false))
    ∙ ap (λ k. coded_reference k w) c.self.view_is
