use Rattle.std.proofs.Common.{◌∙◌, ap, inl, inr, sym, subst, refl}
use Rattle.std.specs.Prelude.{map}
use Rattle.caller_heap.specs.Lent.{held}
use Rattle.pcompact_c.specs.Faults.{number_of}
use Rattle.pcompact_c.specs.Handles.{HaveNoParts}
use Rattle.pcompact_c.proofs.Lemmas.Checks.{first_kept}
use Rattle.pcompact_c.proofs.check.pcompact_begin_checked_at.Goals as goal

pub returns-in-Ok-clause-begun : goal.returns-in-Ok-clause-begun
returns-in-Ok-clause-begun c none =
    let same = c.have_regions.ensures ∙ c.are_all_of_one.ensures.parts in
    let made = c.in-Ok.ensures.image in
    (made.0, c.in-Ok.image, sym (first_kept c.args.handles.now c.have_regions.new.handles same) ∙ made.1, made.2, made.3, c.deal_lent.ensures.parts none)

pub returns-in-Ok-clause-kept : goal.returns-in-Ok-clause-kept
returns-in-Ok-clause-kept c some =
    let same = c.have_regions.ensures ∙ c.are_all_of_one.ensures.parts in
    let made = c.in-Ok.ensures.image in
    let free = subst HaveNoParts (sym (c.deal_lent.ensures.kept some)) c.image_checked.ensures.none in
    elim (c.deal_lent.ensures.back some) [
      | inl holds ↦ inr (inl (free, (made.0, sym (first_kept c.args.handles.now c.have_regions.new.handles same) ∙ made.1, holds ∙ ap (map held) (sym made.4))))
      | inr lost ↦ inr (inr (lost, (c.if-not-are_all_of_one.ensures.origin refl, free)))
    ]

pub returns-in-Ok-clause-fault : goal.returns-in-Ok-clause-fault
returns-in-Ok-clause-fault c some =
    let why = c.deal_lent.ensures.fault some in
    (why.0, why.1, elim why.2 [ inl memory ↦ inr (inl memory) | inr lost ↦ inr (inr (inl lost)) ])

pub returns-in-Err-clause-kept : goal.returns-in-Err-clause-kept
returns-in-Err-clause-kept c some =
    let same = c.have_regions.ensures ∙ c.are_all_of_one.ensures.parts in
    let free = c.image_checked.ensures.none in
    elim c.in-Err.ensures.back [
      | inl back ↦ inr (inl (free, (back.0, sym (first_kept c.args.handles.now c.have_regions.new.handles same) ∙ back.1, back.2)))
      | inr lost ↦ inr (inr (c.of-in-Err.ensures.number ∙ ap number_of lost, (c.if-not-are_all_of_one.ensures.origin refl, free)))
    ]

pub returns-in-Err-clause-fault : goal.returns-in-Err-clause-fault
returns-in-Err-clause-fault c some =
    let same = c.have_regions.ensures ∙ c.are_all_of_one.ensures.parts in
    elim c.in-Err.ensures.fault [
      | inl why ↦ (c.in-Err.fault, c.of-in-Err.ensures, inl (why.0, sym (first_kept c.args.handles.now c.have_regions.new.handles same) ∙ why.1, why.2))
      | inr workers ↦ (c.in-Err.fault, c.of-in-Err.ensures, inr (inr (inl workers)))
    ]
