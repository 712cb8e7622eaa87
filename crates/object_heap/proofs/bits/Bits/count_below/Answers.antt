use Rattle.std.proofs.Common.{◌≡◌, ◌<◌, ℕ, ◌-◌, ◌*◌, ◌/◌, ◌%◌, List, length, ap, ◌∙◌, subst, sym, arith}
use Rattle.std.specs.Prelude.{count_by}
use Rattle.std.specs.List.{range_with_len}
use Rattle.std.proofs.lemmas.Grind.{get_or_default_zero}
use Rattle.object_heap.specs.Bits.{has, room}
use Rattle.object_heap.proofs.Lemmas.Counts.{count-below}
use Rattle.object_heap.proofs.bits.Bits.count_below.Goals as goal

pub returns : goal.returns
returns c =
    let i : ℕ = c.args.i in
    let items : List ℕ = c.self.inside.words.items in
    let is : items ≡ c.args.self.now = c.self.view_is in
    let inside : i < 64 * length items = subst (λ (n : List ℕ). i < room n) (sym is) c.requires in
    c.ones.ensures.value
    ∙ count-below items i c.index.result.now (c.index.ensures ∙ get_or_default_zero items (i / 64) c.index.result.now (omega arith))
    ∙ ap (λ (n : List ℕ). count_by (has n) (range_with_len (i - i % 64) (i % 64))) is
