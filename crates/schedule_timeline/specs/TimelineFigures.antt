-- The figures of a timeline, and how they are printed.
use Rattle.std.specs.Prelude.{◌≡◌, ℕ, List, ◌++◌, codes, decimal, length, count_by, is_some}
use Rattle.schedule_timeline.specs.declared.timeline.bar.Bar.{Bar}
use Rattle.schedule_timeline.specs.declared.timeline.ending.Ending.{Ending}
use Rattle.schedule_timeline.specs.declared.timeline.ending.Ending.TheVariants.{Finished, Open}
use Rattle.schedule_timeline.specs.declared.timeline.freeing.Freeing.{Freeing}
use Rattle.schedule_timeline.specs.declared.figures.TimelineFigures.{TimelineFigures}
use Rattle.schedule_timeline.specs.declared.timeline.Timeline.{Timeline}

-- the figures of a timeline
pub record AreFiguresOf (timeline : Timeline) (figures : TimelineFigures) : Type 0 where
  pub workers : figures.workers ≡ timeline.schedule.workers
  pub lines : figures.lines ≡ length timeline.schedule.lines
  pub granted : figures.granted ≡ length timeline.bars.items
  pub completed : figures.completed ≡ count_by (λ (bar : Bar). is_some bar.completed) timeline.bars.items
  pub settled : figures.settled ≡ count_by (λ (bar : Bar). is_some bar.settled) timeline.bars.items
  pub freed : figures.freed ≡ length timeline.freeings.items
  pub taken : figures.taken ≡ count_by (λ (freeing : Freeing). is_some freeing.taken) timeline.freeings.items
  pub ending : figures.ending ≡ timeline.ending

abbrev pub ending_text : Ending → List ℕ
ending_text Finished = codes "finished"
ending_text Open = codes "open"

-- the line with the figures, without its line feed
abbrev pub figures_text : TimelineFigures → List ℕ
figures_text figures =
    codes "workers " ++ (decimal figures.workers ++ (codes " lines " ++ (decimal figures.lines
    ++ (codes " granted " ++ (decimal figures.granted ++ (codes " completed " ++ (decimal figures.completed
    ++ (codes " settled " ++ (decimal figures.settled ++ (codes " freed " ++ (decimal figures.freed
    ++ (codes " taken " ++ (decimal figures.taken ++ (codes " " ++ ending_text figures.ending))))))))))))))

-- the text is the line with the figures of a timeline
pub record IsFiguresLine (timeline : Timeline) (shown : List ℕ) : Type 0 where
  pub figures : TimelineFigures
  pub counted : AreFiguresOf timeline figures
  pub text : shown ≡ figures_text figures ++ codes "\n"

-- the text begins with the line with the figures of a timeline
pub record BeginsWithFigures (timeline : Timeline) (shown : List ℕ) : Type 0 where
  pub line : List ℕ
  pub figures : IsFiguresLine timeline line
  pub lanes : List ℕ
  pub text : shown ≡ line ++ lanes
