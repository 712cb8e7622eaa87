use Rattle.std.proofs.Common.{◌≡◌, ◌*◌, ℕ, ◌+◌, ◌-◌, ◌/◌, ◌%◌, ◌≤◌, ◌<◌, List, length, get_or, take, drop, ap, ◌∙◌, arith}
use Rattle.std.specs.Prelude.{count_by}
use Rattle.std.specs.List.{range_with_len}
use Rattle.std.proofs.lemmas.List.{get_or-take, get_or-drop, length-take-le, length-drop}
use Rattle.object_heap.specs.Bits.{has}
use Rattle.object_heap.proofs.Lemmas.Counts.{count-part, count-ends, count-le}
use Rattle.object_heap.proofs.bits.Bits.count.Goals as goal

-- the words from one index up to another
middle-length : (items words : List ℕ) (first last : ℕ) → items ≡ words → last < length words → length (take (last - first) (drop first items)) ≡ last - first
middle-length items words first last is h =
    let same : length items ≡ length words = ap length is in
    let rest : length (drop first items) ≡ length items - first = length-drop first items in
    length-take-le (last - first) (drop first items) (omega arith)

middle_at : (items words : List ℕ) (first n i : ℕ) → items ≡ words → i < n → get_or (take n (drop first items)) i 0 ≡ get_or words (first + i) 0
middle_at items words first n i is l =
    get_or-take n (drop first items) i 0 l ∙ get_or-drop first items i 0 ∙ ap (λ (w : List ℕ). get_or w (first + i) 0) is

pub ones_of-whole-requires : goal.ones_of-whole-requires
ones_of-whole-requires c =
    let inside : c.args.to < 64 * length c.args.self.now = c.requires.inside in
    let long = middle-length c.deref.result.now c.args.self.now (c.args.from / 64) (c.args.to / 64) (c.deref.ensures.value ∙ c.self.view_is) (omega arith) in
    let fits = c.ranges.to.fits in
    omega arith

-- what the whole words are
whole_words : (c : goal.After-count_below) → c.ones_of-whole.result ≡ count_by (has c.args.self.now) (range_with_len (64 * (c.args.from / 64)) (64 * (c.args.to / 64 - c.args.from / 64)))
whole_words c =
    let now : List ℕ = c.args.self.now in
    let items : List ℕ = c.deref.result.now in
    let first : ℕ = c.args.from / 64 in
    let n : ℕ = c.args.to / 64 - first in
    let part : List ℕ = take n (drop first items) in
    let is : items ≡ now = c.deref.ensures.value ∙ c.self.view_is in
    let inside : c.args.to < 64 * length now = c.requires.inside in
    let long : length part ≡ n = middle-length items now first (c.args.to / 64) is (omega arith) in
    c.ones_of-whole.ensures
    ∙ ap (λ m. count_by (has part) (range_with_len 0 (64 * m))) long
    ∙ count-part part now first n (λ i l. middle_at items now first n i is l)

pub overflow_add-result : goal.overflow_add-result
overflow_add-result c =
    let now : List ℕ = c.args.self.now in
    let whole = whole_words c in
    let few : count_by (has now) (range_with_len (64 * (c.args.from / 64)) (64 * (c.args.to / 64 - c.args.from / 64))) ≤ 64 * (c.args.to / 64 - c.args.from / 64) = count-le (has now) (64 * (c.args.from / 64)) (64 * (c.args.to / 64 - c.args.from / 64)) in
    let below : count_by (has now) (range_with_len (c.args.to - c.args.to % 64) (c.args.to % 64)) ≤ c.args.to % 64 = count-le (has now) (c.args.to - c.args.to % 64) (c.args.to % 64) in
    let is : c.count_below.result ≡ count_by (has now) (range_with_len (c.args.to - c.args.to % 64) (c.args.to % 64)) = c.count_below.ensures in
    let fits = c.ranges.to.fits in
    omega arith

-- what the whole words and both ends add up to
sum : (c : goal.After-count_below-2) → c.ones_of-whole.result + c.count_below.result ≡ c.count_below-2.result + count_by (has c.args.self.now) (range_with_len c.args.from (c.args.to - c.args.from))
sum c =
    count-ends (has c.args.self.now) c.args.from c.args.to c.ones_of-whole.result c.count_below-2.result c.count_below.result c.requires.ordered
    (whole_words c.before)
    c.count_below.ensures
    c.count_below-2.ensures

pub overflow_sub-result : goal.overflow_sub-result
overflow_sub-result c = let both = sum c in omega (arith, both)

pub returns : goal.returns
returns c = let both = sum c in omega (arith, both)
