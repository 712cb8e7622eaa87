use Rattle.std.proofs.Common.{map, inl, inr, ap, ◌∙◌}
use Rattle.caller_heap.specs.Lent.{held, words_in}
use Rattle.caller_heap.specs.declared.part.Origin.TheVariants.{Slid}
use Rattle.std.specs.Prelude.{Some}
use Rattle.caller_heap.proofs.Lemmas.Lending.{held_told}
use Rattle.caller_heap.proofs.lent_slide.begin_slide.Goals as goal

pub returns-in-Ok-begin-clause-parts : goal.returns-in-Ok-begin-clause-parts
returns-in-Ok-begin-clause-parts c k d below = (
  c.with_shares.ensures.parts c.args.slide (Slid c.args.place) c.in-Ok-begin.ensures.image c.in-Ok-Ok.ensures'.origin k d below,
  c.with_shares.ensures.held (Some (map words_in c.args.words.now)) (λ j e l. c.in-Ok-begin.ensures.words j e l ∙ ap Some c.in-Ok.ensures.regions) k d below,
)

pub returns-in-Err-begin-clause-back : goal.returns-in-Err-begin-clause-back
returns-in-Err-begin-clause-back c = elim c.give_back.ensures.back [
  | inl told ↦ inl (told ∙ ap (map held) (c.in-Err-begin.ensures.back.1 ∙ c.in-Ok.ensures.regions) ∙ held_told c.args.words.now c.in-Ok.ensures.held)
  | inr other ↦ inr other
]
