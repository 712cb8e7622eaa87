use Rattle.std.proofs.Common.{◌≡◌, ◌-◌, ◌<◌, arith}
use Rattle.object_heap.specs.HeapImage.{end_of, size_at}
use Rattle.mark_bitmap.specs.Marks.{is_end}
use Rattle.mark_bitmap.proofs.Lemmas.Apart.{end-first, begin-some, IsFirstFrom-unique}
use Rattle.mark_bitmap.proofs.Lemmas.Ends.{begin-live}
use Rattle.mark_bitmap.proofs.marks.Marks.size_at.Goals as goal

pub object_end-requires : goal.object_end-requires
object_end-requires c = begin-live c.args.self.now c.marked_image_is_valid.ensures c.args.begin c.requires

pub returns : goal.returns
returns c =
    let image = c.args.self.now in
    let valid = c.marked_image_is_valid.ensures in
    let a = c.args.begin in
    let last : c.object_end.result - 1 ≡ end_of image a - 1 = IsFirstFrom-unique (is_end image) a (c.object_end.result - 1) (end_of image a - 1) c.object_end.ensures.last (end-first image valid a c.requires) in
    let some : 0 < size_at image a = begin-some image valid a c.requires in
    let after : a < c.object_end.result = c.object_end.ensures.after in
    omega arith
