use Rattle.std.proofs.Common.{◌≡◌, ◌-◌, length, sym, ◌∙◌, ap, arith}
use Rattle.std.proofs.lemmas.List.Sums.{length-filter}
use Rattle.std.specs.Prelude.{count_by}
use Rattle.std.specs.List.{range_with_len}
use Rattle.object_heap.specs.Bits.{has}
use Rattle.coded_marking.specs.Marking.{Marks}
use Rattle.coded_marking.proofs.marking.Marking.count.Goals as goal

pub returns : goal.returns
returns c =
    let t = c.self.inside.tracing in
    let all : t.words - 0 ≡ t.words = omega arith in
    c.count.ensures
    ∙ ap (λ n. count_by (has t.marked) (range_with_len 0 n)) all
    ∙ sym (length-filter (has t.marked) (range_with_len 0 t.words))
    ∙ ap (λ (m : Marks). length m.marked) c.self.view_is
