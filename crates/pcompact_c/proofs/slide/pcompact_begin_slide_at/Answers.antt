use Rattle.std.proofs.Common.{◌∙◌, ap}
use Rattle.std.specs.Prelude.{Some, map, option_and_then}
use Rattle.caller_heap.specs.Lent.{words_in}
use Rattle.caller_heap.specs.Slides.{planned_in}
use Rattle.caller_heap.specs.declared.part.Origin.TheVariants.{Slid}
use Rattle.caller_heap.specs.declared.part.Part.{Part}
use Rattle.pcompact_c.proofs.slide.pcompact_begin_slide_at.Goals as goal

pub returns-in-Ok-clause-begun : goal.returns-in-Ok-clause-begun
returns-in-Ok-clause-begun c none =
    let slide = c.in-Some-take_slide.slide in
    let part = c.in-Some.part.value in
    let blocks = map words_in c.args.words.now in
    let parts = c.hand_out.ensures.parts slide (Slid c.args.place) (λ i d inside. (c.in-Ok.ensures.parts i d inside).0) in
    let held = c.hand_out.ensures.held (Some blocks) (λ i d inside. (c.in-Ok.ensures.parts i d inside).1) in (
      slide,
      ap (option_and_then (λ (p : Part). planned_in p.share p.slide)) c.in-Some.ensures.part
          ∙ ap (λ share. planned_in share part.slide) c.in-Some-take_slide.ensures.share
          ∙ c.in-Some-take_slide.ensures.slide,
      λ i d inside. (parts i d inside, held i d inside),
    )
