use Rattle.std.proofs.Common.{length, ◌++◌}
use Rattle.object_heap.specs.HeapImage.{heap_words}
use Rattle.heap_image.specs.ImageText.{with_tail}
use Rattle.image_streams.specs.Numbers.{numbers}
use Rattle.heap_image.proofs.Lemmas.TextLaws.{length-numbers, front_words, front_fits, valid_numbers}
use Rattle.heap_image.proofs.Lemmas.Versions.{magic_names}
use Rattle.heap_image.proofs.laws.text_tells_its_size.Goals as goal

pub returns : goal.returns
returns c = record {
  version = magic_names;
  numbers = length-numbers;
  fitting = valid_numbers;
  words = λ image valid.
      let listed = with_tail image in
      front_words image.version image.region_log (length listed.live) (heap_words image) image.allowance (front_fits image.version listed (valid_numbers image valid)) (numbers image.words ++ numbers listed.live);
}
