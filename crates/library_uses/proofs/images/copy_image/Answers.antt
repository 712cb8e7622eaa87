use Rattle.std.proofs.Common.{sym, ◌∙◌}
use Rattle.std.proofs.lemmas.Result.{IfOk-weaker}
use Rattle.library_uses.proofs.images.copy_image.Goals as goal

pub returns : goal.returns
returns c =
    IfOk-weaker c.decode.result _ _
    (λ copy is. c.one_text.ensures copy c.args.image.now is.0 c.image_is_valid.ensures (sym is.1 ∙ c.as_slice.ensures.value ∙ c.in_ok-bytes.ensures))
    c.decode.ensures.text
