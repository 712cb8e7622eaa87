use Rattle.std.proofs.Common.{◌≡◌, ◌++◌, ◌∙◌, ℕ, List, Option, Some, None, ap}
use Rattle.std.specs.Prelude.{IfSome}
use Rattle.std.specs.Io.KnownBytes.{Consumes, IsAtEnd}
use Rattle.std.proofs.lemmas.List.{append-nil}
use Rattle.history.specs.ScheduleText.{schedule_text}
use Rattle.heap_commands.proofs.replay.schedule_in.Goals as goal

-- bytes that were taken to the end
whole : (before after : Option (List ℕ)) (text : List ℕ) → Consumes before after text → IsAtEnd after → IfSome before (λ bytes. bytes ≡ text)
whole None after text is end = tt
whole (Some xs) None text is end = absurd is
whole (Some xs) (Some ys) text is end = is ∙ (ap (λ (rest : List ℕ). text ++ rest) end ∙ append-nil text)

pub returns-in-Ok-clause-text : goal.returns-in-Ok-clause-text
returns-in-Ok-clause-text g c =
    whole (g.S.Intake.left c.args.source.now) (g.S.Intake.left c.read_schedule_from.new.source) (schedule_text c.in-Ok.schedule) c.in-Ok.ensures.text c.in-Ok.ensures.end
