-- The words of a valid image slide by its table of moves.
use Rattle.std.proofs.Common.{◌≡◌, ℕ, ◌<◌, ◌∙◌, true, arith}
use Rattle.std.specs.Prelude.{◌==◌, ◌&&◌, not}
use Rattle.std.proofs.lemmas.Bool.{and_from, lt-ltb, ne_eqb, not_from_false}
use Rattle.std.proofs.lemmas.Nat.{div-add-mod'}
use Rattle.object_heap.specs.HeapImage.{HeapImage, IsValid, region_words, region_of, start_of}
use Rattle.summary.specs.NewAddresses.{new_top}
use Rattle.summary.specs.WordMoves.{is_to_fill}
use Rattle.summary.specs.WordMoves.{reads as image_reads}
use Rattle.summary.specs.PlanLaws.{PlanLaws}
use Rattle.scheduler.specs.MoveTable.{reads, to_fill}
use Rattle.scheduler.specs.ImageMoves.{image_table}
use Rattle.history.specs.Slide.{IsSlideOf}
use Rattle.history.specs.WordMachine.{image_slide}
use Rattle.history.proofs.Lemmas.Regions.{region_some}

-- a word that is to be written is one of a region that is to be filled
written_to_fill : (image : HeapImage) (a : ℕ) → a < new_top image → is_to_fill image (region_of image a) ≡ true
written_to_fill image a l =
    let split = div-add-mod' a (region_words image) in
    lt-ltb (start_of image (region_of image a)) (new_top image) (omega arith)

pub image_slides : PlanLaws → (image : HeapImage) → IsValid image → ((r : ℕ) → to_fill (image_table image) r ≡ is_to_fill image r)
    → ((d s : ℕ) → reads (image_table image) d s ≡ (not (d == s) && image_reads image d s)) → IsSlideOf (image_table image) (image_slide image)
image_slides law image valid fills pairs =
    record {
      sized = region_some image;
      down = λ a x l from. law.origin-up image valid.live_list a x from;
      crossing = λ a x l from apart. pairs (region_of image a) (region_of image x)
          ∙ and_from (not (region_of image a == region_of image x)) (image_reads image (region_of image a) (region_of image x))
          (not_from_false (region_of image a == region_of image x) (ne_eqb (region_of image a) (region_of image x) apart)) (law.origin-reads image valid.live_list a x from);
      filled = λ a l. fills (region_of image a) ∙ written_to_fill image a l;
    }
