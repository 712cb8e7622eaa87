use Rattle.std.proofs.Common.{◌≡◌, ◌<◌, ◌^◌, length, ap, sym, ◌∙◌, subst}
use Rattle.std.specs.Prelude.{option_map}
use Rattle.object_heap.specs.HeapImage.{HeapImage, IsValid, roots_or}
use Rattle.heap_image.specs.ImageText.{with_tail}
use Rattle.heap_image.proofs.Lemmas.TextLaws.{valid_numbers}
use Rattle.heap_image.proofs.image.Image.tail.Goals as goal

pub returns-in-Some-clause-counted : goal.returns-in-Some-clause-counted
returns-in-Some-clause-counted c =
    let image : HeapImage = c.args.self.now in
    let same : c.as_slice.result.now ≡ (with_tail image).live =
    c.as_slice.ensures.value ∙ ap (λ o. roots_or c.self.inside.live.items (option_map (λ v. v.items) o)) (sym c.in-Some.is) ∙ ap (λ (i : HeapImage). (with_tail i).live) c.self.view_is in
    subst (λ xs. length xs < 2 ^ 32) (sym same) (valid_numbers image (subst IsValid c.self.view_is c.self.invariant.parts.valid)).counted

pub returns-in-None-clause-counted : goal.returns-in-None-clause-counted
returns-in-None-clause-counted c =
    let image : HeapImage = c.args.self.now in
    let same : c.as_slice-in-None.result.now ≡ (with_tail image).live =
    c.as_slice-in-None.ensures.value ∙ ap (λ o. roots_or c.self.inside.live.items (option_map (λ v. v.items) o)) (sym c.in-None.is) ∙ ap (λ (i : HeapImage). (with_tail i).live) c.self.view_is in
    subst (λ xs. length xs < 2 ^ 32) (sym same) (valid_numbers image (subst IsValid c.self.view_is c.self.invariant.parts.valid)).counted
