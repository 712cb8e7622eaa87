use Rattle.std.proofs.Common.{◌≡◌, ◌+◌, ◌/◌, ◌%◌, ◌^◌, ◌<◌, ◌≤◌, ℕ, List, [], length, get_or, sym, ◌∙◌, ap, arith, length-take}
use Rattle.std.proofs.lemmas.List.{get_or_default, get_or-take, get_or-drop}
use Rattle.std.proofs.lemmas.Nat.{mod_below}
use Rattle.std.specs.List.{concat}
use Rattle.object_heap.specs.HeapImage.{FormHeap, HeapImage, heap_words, image_of, word_at}
use Rattle.object_heap.proofs.Lemmas.BlockWords.{block_below, word_behind}
use Rattle.object_heap.proofs.Lemmas.RegionLogs.{region_some, place_by_mask}
use Rattle.object_heap.proofs.heap.Heap.row.Goals as goal

-- the first address is inside
first : (log from to : ℕ) (regions : List (List ℕ)) (heap : HeapImage) → image_of log 0 regions [] ≡ heap → from < to → to ≤ heap_words heap → from < length (concat regions)
first log from to regions heap is l m = let same = ap heap_words is in omega arith

pub bounds-self-inside-from : goal.bounds-self-inside-from
bounds-self-inside-from c =
    let heap = c.self.inside in
    block_below (2 ^ heap.region_log) (region_some heap.region_log) heap.regions.now c.self.invariant.whole c.args.from (first heap.region_log c.args.from c.args.to heap.regions.now c.args.self.now c.self.view_is c.requires.some c.requires.inside)

-- the region of an address is as long as all are
long : (log a : ℕ) (regions : List (List ℕ)) (words region : List ℕ) → FormHeap log regions → a < length (concat regions) → words ≡ get_or regions (a / 2 ^ log) region → length words ≡ 2 ^ log
long log a regions words region heap l same =
    ap length same ∙ heap.whole (a / 2 ^ log) region (block_below (2 ^ log) (region_some log) regions heap.whole a l)

pub split_at-requires : goal.split_at-requires
split_at-requires c =
    let heap = c.self.inside in
    let place = place_by_mask heap.region_log c.args.from c.self.invariant.log in
    let inside = mod_below c.args.from (2 ^ heap.region_log) (region_some heap.region_log) in
    let inner = first heap.region_log c.args.from c.args.to heap.regions.now c.args.self.now c.self.view_is c.requires.some c.requires.inside in
    let all = long heap.region_log c.args.from heap.regions.now c.words-words.result.now c.index-self-from.result c.self.invariant inner c.words-words.ensures.value in
    omega arith

pub returns-clause-some : goal.returns-clause-some
returns-clause-some c =
    let heap = c.self.inside in
    let place = place_by_mask heap.region_log c.args.from c.self.invariant.log in
    let inside = mod_below c.args.from (2 ^ heap.region_log) (region_some heap.region_log) in
    let inner = first heap.region_log c.args.from c.args.to heap.regions.now c.args.self.now c.self.view_is c.requires.some c.requires.inside in
    let all = long heap.region_log c.args.from heap.regions.now c.words-words.result.now c.index-self-from.result c.self.invariant inner c.words-words.ensures.value in
    let behind = c.split_at.ensures.back_len in
    let taken = length-take c.min.result c.split_at.result.1.now in
    let least = c.min.ensures in
    let some = c.requires.some in
    omega arith

pub returns-clause-words : goal.returns-clause-words
returns-clause-words c = λ i l.
    let heap = c.self.inside in
    let r : ℕ = 2 ^ heap.region_log in
    let b : ℕ = c.args.from / r in
    let place = place_by_mask heap.region_log c.args.from c.self.invariant.log in
    let inner = first heap.region_log c.args.from c.args.to heap.regions.now c.args.self.now c.self.view_is c.requires.some c.requires.inside in
    let all = long heap.region_log c.args.from heap.regions.now c.words-words.result.now c.index-self-from.result c.self.invariant inner c.words-words.ensures.value in
    let behind = c.split_at.ensures.back_len in
    let taken = length-take c.min.result c.split_at.result.1.now in
    let least = c.min.ensures in
    let below = block_below r (region_some heap.region_log) heap.regions.now c.self.invariant.whole c.args.from inner in
    let is : c.words-words.result.now ≡ get_or heap.regions.now b [] = c.words-words.ensures.value ∙ get_or_default heap.regions.now b c.index-self-from.result [] below in
    get_or-take c.min.result c.split_at.result.1.now i 0 (omega arith)
    ∙ ap (λ xs. get_or xs i 0) c.split_at.ensures.back
    ∙ get_or-drop _ c.words-words.result.now i 0
    ∙ ap (λ n. get_or c.words-words.result.now (n + i) 0) place
    ∙ ap (λ (ws : List ℕ). get_or ws (c.args.from % r + i) 0) is
    ∙ sym (word_behind r (region_some heap.region_log) heap.regions.now c.self.invariant.whole c.args.from i inner (omega arith))
    ∙ ap (λ h. word_at h (c.args.from + i)) c.self.view_is
