use Rattle.std.proofs.Common.{◌<◌, length, get_or, sym, ap, subst, ◌∙◌, arith}
use Rattle.std.proofs.lemmas.List.{get_or_read_under}
use Rattle.std.proofs.lemmas.List.FromFn.{get_or-map-range_with_len}
use Rattle.raw_region.specs.Frame.{place_of, part_of}
use Rattle.raw_region.proofs.frame.Frame.slot.Goals as goal

pub returns-clause-value : goal.returns-clause-value
returns-clause-value c =
    let s = c.self.inside in
    let i = c.args.index in
    let xs = s.slots.items in
    let d = place_of s.deed.at s.size 0 in
    let inside : i < length xs = subst (λ f. i < f.count) (sym c.self.view_is) c.requires in
    get_or_read_under xs i (length xs) c.index.result.now d c.index.ensures inside (omega arith)
    ∙ ap (λ l. get_or l i d) c.self.invariant.slots_are
    ∙ get_or-map-range_with_len (place_of s.deed.at s.size) 0 (length xs) i i d inside (omega arith)
    ∙ ap (λ f. part_of f i) c.self.view_is
