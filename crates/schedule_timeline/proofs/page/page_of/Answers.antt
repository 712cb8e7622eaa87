use Rattle.std.proofs.Common.{◌≡◌, ◌∙◌, ◌++◌, ℕ, List, append_assoc, ap}
use Rattle.std.specs.Prelude.{string_bytes}
use Rattle.history.specs.ScheduleText.{schedule_text}
use Rattle.schedule_timeline.specs.Page.{Has}
use Rattle.schedule_timeline.proofs.page.page_of.Goals as goal

-- a text between two others
between : (front text middle back whole : List ℕ) → middle ≡ front ++ text → whole ≡ middle ++ back → Has text whole
between front text middle back whole first then = (front, back, then ∙ ap (λ (l : List ℕ). l ++ back) first ∙ append_assoc front text back)

pub returns : goal.returns
returns c =
    let text = schedule_text c.args.schedule.now in
    let back = c.in_ok-write_back.ensures in
    between (string_bytes c.in_ok-page.page) text _ back.0 _ c.in_ok-append_schedule.ensures (ap (λ v. v.items) c.into_bytes.ensures.value ∙ back.1)
