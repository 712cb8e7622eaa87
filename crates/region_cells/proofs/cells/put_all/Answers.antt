use Rattle.std.proofs.Common.{◌≡◌, ℕ, ◌<◌, ◌≤◌, ◌+◌, ◌-◌, List, [], ◌∷◌, ◌++◌, take, drop, length, sym, ap, subst, ◌∙◌, get_or, arith, rules}
use Rattle.std.specs.Prelude.{map, slice_range}
use Rattle.std.specs.List.{range_with_len}
use Rattle.std.specs.Vec.Iter.{drain_steps, drain_items, drain_kept}
use Rattle.std.specs.declared.vec.Drain.{Drain}
use Rattle.std.proofs.lemmas.Iterator.{YieldsList}
use Rattle.std.proofs.lemmas.Iterator.Consumers.{YieldsList-turn, YieldsList-end, YieldsList-from_shown}
use Rattle.std.proofs.lemmas.List.{length_push, get_or_push, get_or_read}
use Rattle.std.proofs.lemmas.List.FromFn.{length-map-range_with_len, get_or-map-range_with_len, map-range_with_len_more, take-map-range_with_len}
use Rattle.object_heap.specs.HeapImage.{HeapImage, region_count, block_of}
use Rattle.region_cells.specs.Blocks.{blocks_of}
use Rattle.region_cells.specs.Cells.{place_of, other_blocks}
use Rattle.region_cells.proofs.cells.put_all.Goals as goal

-- the first n regions of an image
first_regions : (image : HeapImage) (n : ℕ) (regions : List (List ℕ)) → regions ≡ blocks_of image → n ≤ region_count image
    → slice_range regions 0 n ≡ map (block_of image) (range_with_len 0 n)
first_regions image n regions are few =
    let all : n - 0 ≡ n = omega arith in
    ap (λ xs. slice_range xs 0 n) are ∙ ap (λ m. take m (blocks_of image)) all ∙ take-map-range_with_len (block_of image) 0 (region_count image) n few

-- a `drain` of items gives them in order
road : {A Z : Type 0} {s : Drain A Z} (xs : List A) → drain_items s ≡ xs → YieldsList (drain_steps {X = A} {Z = Z}) (λ x. x) s xs
road {A} {Z} {s} xs e = subst (YieldsList (drain_steps {X = A} {Z = Z}) (λ x. x) s) e (YieldsList-from_shown drain_steps (λ x. x) drain_items (λ t u h. ap length h.0) (λ t x u h. h.0) s)

pub drain-region-items-requires-clause-in_bounds : goal.drain-region-items-requires-clause-in_bounds
drain-region-items-requires-clause-in_bounds c =
    let image = c.args.first.image in
    omega (arith, c.requires.few, c.args.regions.now.ok.0, ap length c.requires.regions, length-map-range_with_len (block_of image) 0 (region_count image))

pub loop-region-init : goal.loop-region-init
loop-region-init c = (tt, tt, ap (place_of c.args.first.image) c.requires.first, c.requires.empty, c.requires.room)

pub put_original-requires : goal.put_original-requires
put_original-requires c =
    let slots = c.loop-region.slots.items in
    let image = c.args.first.image in
    let n = c.args.count in
    let k = length c.loop-region.yielded in
    let xs = map (block_of image) (range_with_len 0 n) in
    let firsts : drain_items c.into_iter-region-iterator.result ≡ xs =
    ap drain_items c.into_iter-region-iterator.ensures.into_iter_gives ∙ c.drain-region-items.ensures.rest ∙ first_regions image n c.args.regions.now.items c.requires.regions c.requires.few in
    let t = YieldsList-turn (road {s = c.into_iter-region-iterator.result} xs firsts) c.loop-region.yielded c.loop-region.region-iterator c.loop-region.yielded_by _ c.next.new.self c.in-Some.region c.in-Some.is c.next.ensures.steps in
    let inside : k < n = omega (arith, t.0, length-map-range_with_len (block_of image) 0 n) in
    let made = c.add.ensures.items in
    let last : c.len.result - 1 ≡ length slots = omega (arith, c.len.ensures, c.add.new.items.ok.0, ap length made, length_push slots c.new.result) in
    let cell : c.index.result.now ≡ c.new.result = c.index.ensures ∙ ap (λ l. get_or l (c.len.result - 1) c.index.result.now) made ∙ get_or_push slots c.new.result c.index.result.now (c.len.result - 1) (sym last) in
    get_or_read xs k c.in-Some.region t.0 t.1 []
    ∙ get_or-map-range_with_len (block_of image) 0 n k k [] inside (omega arith)
    ∙ ap (λ p. block_of p.image p.region) (sym c.loop-region.invariant.2)
    ∙ ap (λ p. block_of p.image p.region) (sym (cell ∙ c.new.ensures))

pub add-requires : goal.add-requires
add-requires c =
    let image = c.args.first.image in
    let n = c.args.count in
    let k = length c.loop-region.yielded in
    let xs = map (block_of image) (range_with_len 0 n) in
    let firsts : drain_items c.into_iter-region-iterator.result ≡ xs =
    ap drain_items c.into_iter-region-iterator.ensures.into_iter_gives ∙ c.drain-region-items.ensures.rest ∙ first_regions image n c.args.regions.now.items c.requires.regions c.requires.few in
    let t = YieldsList-turn (road {s = c.into_iter-region-iterator.result} xs firsts) c.loop-region.yielded c.loop-region.region-iterator c.loop-region.yielded_by _ c.next.new.self c.in-Some.region c.in-Some.is c.next.ensures.steps in
    let inside : k < n = omega (arith, t.0, length-map-range_with_len (block_of image) 0 n) in
    let inv = c.loop-region.invariant in
    omega (arith, inside, c.loop-region.slots.ok.0, ap length inv.3, length-map-range_with_len (place_of image) 0 k, inv.4)

pub step-requires : goal.step-requires
step-requires c =
    let image = c.args.first.image in
    let n = c.args.count in
    let k = length c.loop-region.yielded in
    let xs = map (block_of image) (range_with_len 0 n) in
    let firsts : drain_items c.into_iter-region-iterator.result ≡ xs =
    ap drain_items c.into_iter-region-iterator.ensures.into_iter_gives ∙ c.drain-region-items.ensures.rest ∙ first_regions image n c.args.regions.now.items c.requires.regions c.requires.few in
    let t = YieldsList-turn (road {s = c.into_iter-region-iterator.result} xs firsts) c.loop-region.yielded c.loop-region.region-iterator c.loop-region.yielded_by _ c.next.new.self c.in-Some.region c.in-Some.is c.next.ensures.steps in
    let inside : k < n = omega (arith, t.0, length-map-range_with_len (block_of image) 0 n) in
    omega (arith, inside, c.requires.few, c.requires.valid.limits.few_regions, ap (λ p. p.region) c.loop-region.invariant.2)

pub loop-region-preserved : goal.loop-region-preserved
loop-region-preserved c =
    let image = c.args.first.image in
    let k = length c.loop-region.yielded in
    let inv = c.loop-region.invariant in
    let more = length_push c.loop-region.yielded c.in-Some.region in (
      tt,
      tt,
      c.step.ensures ∙ ap (λ p. place_of p.image (p.region + 1)) inv.2 ∙ ap (place_of image) (sym more),
      c.add.ensures.items
          ∙ ap (λ l. l ++ c.new.result ∷ []) inv.3
          ∙ ap (λ p. map (place_of image) (range_with_len 0 k) ++ p ∷ []) (c.new.ensures ∙ inv.2)
          ∙ sym (map-range_with_len_more (place_of image) 0 k k (omega arith))
          ∙ ap (λ m. map (place_of image) (range_with_len 0 m)) (sym more),
      omega (arith, inv.4, c.add.ensures.capacity),
    )

pub returns-clause-slots : goal.returns-clause-slots
returns-clause-slots c =
    let image = c.args.first.image in
    let n = c.args.count in
    let k = length c.loop-region.yielded in
    let xs = map (block_of image) (range_with_len 0 n) in
    let firsts : drain_items c.into_iter-region-iterator.result ≡ xs =
    ap drain_items c.into_iter-region-iterator.ensures.into_iter_gives ∙ c.drain-region-items.ensures.rest ∙ first_regions image n c.args.regions.now.items c.requires.regions c.requires.few in
    let e = YieldsList-end (road {s = c.into_iter-region-iterator.result} xs firsts) c.loop-region.yielded c.loop-region.region-iterator c.loop-region.yielded_by _ c.next.new.self c.in-None.is c.next.ensures.steps in
    c.loop-region.invariant.3 ∙ ap (λ m. map (place_of image) (range_with_len 0 m)) (e.1 ∙ length-map-range_with_len (block_of image) 0 n ∙ c.requires.count)

pub returns-clause-others : goal.returns-clause-others
returns-clause-others c =
    let image = c.args.first.image in
    let kept : drain_kept c.drain-region-items.result ≡ other_blocks image =
    c.drain-region-items.ensures.kept ∙ ap (drop c.args.count) c.requires.regions ∙ ap (λ n. drop n (blocks_of image)) c.requires.count in
    search rules
