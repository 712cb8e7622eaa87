use Rattle.history.proofs.Lemmas.ImageSlides.{image_slides}
use Rattle.history.proofs.laws.machine_laws.Goals as goal

pub returns : goal.returns
returns c =
    let moves = c.moves_of_images.ensures in
    let lines = c.calls_are_lines.ensures in
    record {
      plan = c.plan_laws.ensures;
      lawful = moves.lawful;
      reads = moves.reads;
      slides = λ image valid. image_slides c.plan_laws.ensures image valid (moves.to_fill image valid) (moves.reads image valid);
      counts = c.how_counts_go_down.ensures;
      reached = c.what_legal_histories_keep.ensures;
      call = lines.call;
      small = lines.small;
    }
