use Rattle.std.proofs.Common.{◌∙◌, ℕ, Global, Vec, ap, subst, sym}
use Rattle.heap_commands.specs.Compare.{IsCompared}
use Rattle.heap_commands.proofs.compare.answer.Goals as goal

pub returns : goal.returns
returns _ c =
    let text = c.with_status.ensures ∙ c.printing.ensures ∙ c.into_bytes.ensures.value in
    subst IsCompared (sym (ap (λ (v : Vec ℕ Global). v.items) text)) c.in_ok-report.ensures
