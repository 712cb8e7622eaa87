-- Lines of a text fit in 12 bytes.
use Rattle.std.proofs.Common.{◌≡◌, ℕ, ◌≤◌, true}
use Rattle.std.proofs.lemmas.Bool.{and_parts}
use Rattle.scheduler.specs.PackedLine.{IsSmall}
use Rattle.scheduler.specs.Schedule.{is_line}
use Rattle.scheduler.specs.declared.schedule.line.Line.{Line}
use Rattle.history.specs.ReadSchedule.{is_text_line}
use Rattle.history.specs.Verb.{has_numbers}

pub text_line_small : ((workers : ℕ) (l : Line) → workers ≤ 64 → is_line workers l ≡ true → IsSmall l) → (workers : ℕ) (l : Line) → workers ≤ 64 → is_text_line workers l ≡ true → IsSmall l
text_line_small small workers l most h = small workers l most (and_parts (is_line workers l) (has_numbers l.event) h).0
