use Rattle.std.proofs.Common.{inr, sym, subst}
use Rattle.std.proofs.lemmas.Result.{IfOk-weaker}
use Rattle.heap_commands.specs.Map.{IsMap}
use Rattle.heap_commands.proofs.map.draw_to.Goals as goal

pub returns-in-Ok : goal.returns-in-Ok
returns-in-Ok g c =
    let drawn = c.in-Ok.ensures.drawing in
    IfOk-weaker c.ended.result _ _ (λ done is. subst IsMap (sym is) (drawn.0, drawn.1, inr drawn.3)) c.ended.ensures
