use Rattle.std.proofs.Common.{◌≡◌, ◌∙◌, sym, refl}
use Rattle.std.proofs.lemmas.Bool.{true≢false}
use Rattle.std.specs.Prelude.{Option, Some, None}
use Rattle.pcompact_c.specs.Slides.{plan_in}
use Rattle.pcompact_c.proofs.objects.pcompact_redirect_objects.Goals as goal

either : {X : Type 0} (P : Type 0) (o : Option X) → (o ≡ None → P) → ((x : X) → o ≡ Some x → P) → P
either P None none some = none refl
either P (Some x) none some = some x refl

pub returns-else-redirect_objects-clause-kept : goal.returns-else-redirect_objects-clause-kept
returns-else-redirect_objects-clause-kept c _ =
    let did = c.redirect_objects.ensures in
    either (c.redirect_objects.new.words ≡ c.args.words.now) (plan_in c.args.plan.now)
    (λ none. (did.not_planned none).0)
    (λ image is. absurd (true≢false (sym (did.planned image is).1 ∙ c.if-redirect_objects.false)))
