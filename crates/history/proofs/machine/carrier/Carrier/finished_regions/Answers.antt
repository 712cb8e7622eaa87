use Rattle.std.proofs.Common.{◌≡◌, ℕ, suc, ◌+◌, ◌-◌, ◌*◌, ◌≤◌, List, [], ◌∷◌, ◌++◌, length, reverse, get_or, sym, ap, ◌∙◌, arith}
use Rattle.std.specs.Prelude.{map}
use Rattle.std.specs.List.{range_with_len}
use Rattle.std.proofs.lemmas.List.{get_or-take, length-take-le, reverse-append}
use Rattle.object_heap.specs.HeapImage.{HeapImage, region_count, region_words}
use Rattle.summary.specs.Compaction.{compacted_word}
use Rattle.summary.specs.RegionData.{region_addresses}
use Rattle.history.proofs.Lemmas.Regions.{whole_heap, below_next}
use Rattle.history.proofs.machine.carrier.Carrier.finished_regions.Goals as goal

-- the words of a region of the compacted image
abbrev block_of : HeapImage → ℕ → List ℕ
block_of image r = map (compacted_word image) (region_addresses image r)

-- one region more in front
one_more : (f : ℕ → List ℕ) (xs : List (List ℕ)) (b : List ℕ) (r r' n : ℕ) → r ≡ suc r' → r ≤ n → b ≡ f r' → reverse xs ≡ map f (range_with_len r (n - r)) → reverse (xs ++ b ∷ []) ≡ map f (range_with_len r' (n - r'))
one_more f xs b r r' n next few is made =
    let more : n - r' ≡ suc (n - r) = omega arith in
    let from : r' + 1 ≡ r = omega arith in
    reverse-append xs (b ∷ [])
    ∙ ap (λ (bs : List (List ℕ)). b ∷ bs) made
    ∙ ap (λ (c : List ℕ). c ∷ map f (range_with_len r (n - r))) is
    ∙ ap (λ (k : ℕ). f r' ∷ map f (range_with_len k (n - r))) (sym from)
    ∙ ap (λ (k : ℕ). map f (range_with_len r' k)) (sym more)

pub loop-r-init : goal.loop-r-init
loop-r-init c =
    let image : HeapImage = c.args.self.now.plan.now in
    let all : c.regions-r.result ≡ region_count image = c.regions-r.ensures.value in
    let none : 0 ≡ region_count image - c.regions-r.result = omega (arith, all) in
    record {
      few = omega (arith, all);
      long = c.requires.long ∙ (whole_heap image c.requires.kept.valid ∙ ap (λ (r : ℕ). r * region_words image) (sym all));
      moved = λ a l. c.requires.moved a (omega (arith, l, all, whole_heap image c.requires.kept.valid, ap (λ (r : ℕ). r * region_words image) all));
      made = ap (reverse {A = List ℕ}) c.new-regions.ensures.items ∙ ap (λ (k : ℕ). map (block_of image) (range_with_len c.regions-r.result k)) none;
    }

pub loop-r-preserved : goal.loop-r-preserved
loop-r-preserved c =
    let image : HeapImage = c.args.self.now.plan.now in
    let next : c.loop-r.r ≡ suc (c.loop-r.r - 1) = omega (arith, c.loop-r-test.true) in
    let len : c.region_words-len.result ≡ region_words image = c.region_words-len.ensures.value in
    let fewer : (c.loop-r.r - 1) * region_words image ≤ c.loop-r.r * region_words image = below_next image c.loop-r.r (c.loop-r.r - 1) next in
    let left : (c.loop-r.r - 1) * c.region_words-len.result ≡ (c.loop-r.r - 1) * region_words image = ap (λ (k : ℕ). (c.loop-r.r - 1) * k) len in
    record {
      few = omega (arith, c.loop-r.invariant.few);
      long = ap (length {A = ℕ}) c.cut.ensures ∙ (length-take-le ((c.loop-r.r - 1) * c.region_words-len.result) c.loop-r.heap.items (omega (arith, left, fewer, c.loop-r.invariant.long)) ∙ left);
      moved = λ a l. ap (λ (xs : List ℕ). get_or xs a 0) c.cut.ensures ∙ (get_or-take ((c.loop-r.r - 1) * c.region_words-len.result) c.loop-r.heap.items a 0 (omega (arith, l, left)) ∙ c.loop-r.invariant.moved a (omega (arith, l, fewer)));
      made = ap (reverse {A = List ℕ}) c.in_ok-push.ensures.items
          ∙ one_more (block_of image) c.loop-r.regions.items c.in_ok-finished_region.field-0 c.loop-r.r (c.loop-r.r - 1) (region_count image) next c.loop-r.invariant.few c.in_ok-finished_region.ensures c.loop-r.invariant.made;
    }
