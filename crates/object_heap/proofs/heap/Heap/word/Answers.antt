use Rattle.std.proofs.Common.{◌≡◌, ◌<◌, length, ℕ, ◌/◌, ◌%◌, ◌^◌, List, [], get_or, sym, ◌∙◌, ap, subst, arith}
use Rattle.std.proofs.lemmas.List.{get_or_default}
use Rattle.std.proofs.lemmas.Nat.{mod_below}
use Rattle.object_heap.specs.HeapImage.{heap_words, word_at}
use Rattle.object_heap.proofs.Lemmas.BlockWords.{block_below, word_by_block}
use Rattle.object_heap.proofs.Lemmas.RegionLogs.{region_some, place_by_mask}
use Rattle.object_heap.proofs.heap.Heap.word.Goals as goal

pub bounds-self-inside-a : goal.bounds-self-inside-a
bounds-self-inside-a c =
    let heap = c.self.inside in
    let inside = subst (λ h. c.args.a < heap_words h) (sym c.self.view_is) c.requires in
    block_below (2 ^ heap.region_log) (region_some heap.region_log) heap.regions.now c.self.invariant.whole c.args.a inside

pub get-requires : goal.get-requires
get-requires c =
    let heap = c.self.inside in
    let r : ℕ = 2 ^ heap.region_log in
    let i : ℕ = c.args.a / r in
    let inside = subst (λ h. c.args.a < heap_words h) (sym c.self.view_is) c.requires in
    let long : length (get_or heap.regions.now i c.index-self-a.result) ≡ r = c.self.invariant.whole i c.index-self-a.result (block_below r (region_some heap.region_log) heap.regions.now c.self.invariant.whole c.args.a inside) in
    let place = place_by_mask heap.region_log c.args.a c.self.invariant.log in
    let below = mod_below c.args.a r (region_some heap.region_log) in
    omega arith

pub returns : goal.returns
returns c =
    let heap = c.self.inside in
    let r : ℕ = 2 ^ heap.region_log in
    let i : ℕ = c.args.a / r in
    let inside = subst (λ h. c.args.a < heap_words h) (sym c.self.view_is) c.requires in
    let below = block_below r (region_some heap.region_log) heap.regions.now c.self.invariant.whole c.args.a inside in
    c.get.ensures
    ∙ ap (λ n. get_or (get_or heap.regions.now i c.index-self-a.result) n 0) (place_by_mask heap.region_log c.args.a c.self.invariant.log)
    ∙ ap (λ (b : List ℕ). get_or b (c.args.a % r) 0) (get_or_default heap.regions.now i c.index-self-a.result [] below)
    ∙ sym (word_by_block r (region_some heap.region_log) heap.regions.now c.self.invariant.whole c.args.a inside)
    ∙ ap (λ h. word_at h c.args.a) c.self.view_is
