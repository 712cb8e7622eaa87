use Rattle.std.proofs.Common.{◌++◌, arith}
use Rattle.std.specs.Prelude.{flat_map}
use Rattle.object_heap.specs.HeapImage.{word_at}
use Rattle.heap_text.specs.Text.{addresses_between, number_text}
use Rattle.heap_text.proofs.Lemmas.TextSteps.{append_row}
use Rattle.heap_text.proofs.writing.write_numbers.Goals as goal

pub loop-place-preserved : goal.loop-place-preserved
loop-place-preserved c =
    append_row (λ a. number_text (word_at c.args.image.now a)) c.loop-place.text.items c.write_number_row.new.text.items
    (c.extend_from_slice.new.self.items ++ flat_map (λ a. number_text (word_at c.args.image.now a)) (addresses_between c.args.from c.args.to))
    c.loop-place.place c.min.result c.args.to (omega (arith, c.min.ensures)) c.loop-place.invariant c.in_ok-write_number_row.ensures
