-- What is printed of a schedule that was read is printed of some schedule.
use Rattle.std.proofs.Common.{ℕ, List, Option, inl, inr}
use Rattle.heap_commands.specs.Timeline.{HasLanes, HasPicture, IsTimeline}
use Rattle.heap_commands.specs.declared.timeline.Form.{Form}

pub lanes_are_a_timeline : (left left' schedule : Option (List ℕ)) → (shown : List ℕ) → HasLanes left left' schedule shown → IsTimeline shown
lanes_are_a_timeline left left' schedule shown (timeline, followed, begins) = record {
  image = followed.image;
  valid = followed.valid;
  schedule = followed.lines;
  timeline = timeline;
  follows = followed.follows;
  printed = inl begins;
}

pub figures_are_a_timeline : (form : Form) (left left' schedule : Option (List ℕ)) → (shown picture : List ℕ)
    → HasPicture form left left' schedule shown picture → IsTimeline shown
figures_are_a_timeline form left left' schedule shown picture (timeline, followed, is) = record {
  image = followed.image;
  valid = followed.valid;
  schedule = followed.lines;
  timeline = timeline;
  follows = followed.follows;
  printed = inr is.figures;
}
