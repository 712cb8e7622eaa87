use Rattle.std.proofs.Common.{◌≡◌, ◌∙◌, arith}
use Rattle.std.specs.Arc.{arc_value}
use Rattle.object_heap.specs.HeapImage.{HeapImage, IsValid, is_live_word}
use Rattle.mark_bitmap.specs.Marks.{AreMarks}
use Rattle.mark_bitmap.proofs.Lemmas.PartBits.{all_bits}
use Rattle.mark_bitmap.proofs.Lemmas.Runs.{live-inside}
use Rattle.mark_bitmap.proofs.marks.Marks.with_bits.Goals as goal

pub invariant_of-result : goal.invariant_of-result
invariant_of-result c =
    let image : HeapImage = c.args.image.now in
    let valid : IsValid image = c.listed_image_is_valid.ensures in
    let marks : AreMarks image c.args.begins c.args.live.items = record {
      valid = valid;
      bits = record {
        begins_room = c.requires.begins.room;
        live_room = c.requires.room;
        begin_bits = c.requires.begins.bits;
        live_bits = all_bits (is_live_word image) c.args.live.items c.requires.live (λ k h. let low = live-inside image valid k h in omega (arith, c.requires.room));
      };
    } in
    let same : arc_value c.in_ok-live.live ≡ c.args.live.items = c.in_ok-live.ensures.ok ∙ c.from_words.ensures in
    rw (c.surveyed.ensures, same) marks
