use Rattle.std.proofs.Common.{◌≡◌, ℕ, ◌+◌, ◌-◌, ◌*◌, ◌/◌, ◌%◌, ◌≤◌, ◌<◌, true, List, length, get_or, sym, ◌∙◌, ap, subst, arith}
use Rattle.std.proofs.lemmas.List.FromFn.{length-map-range_with_len, get_or-map-range_with_len}
use Rattle.object_heap.specs.HeapImage.{HeapImage, heap_words, is_live_word, live_words}
use Rattle.mark_bitmap.specs.Marks.{bit_words}
use Rattle.summary.specs.Redirections.{AreBits, AreRedirections, counted_below, first_rank}
use Rattle.summary.proofs.Lemmas.Ranks.{bits-of, least-counted, live-within}
use Rattle.summary.proofs.Lemmas.Addresses.{prefix_end-le}
use Rattle.summary.proofs.Lemmas.Words.{live_words-le}
use Rattle.summary.proofs.plan.redirections.RedirectionSlices.live_below.Goals as goal
use Rattle.summary.proofs.plan.redirections.RedirectionSlices.live_below.Goals.{After-from}

pub get-requires : goal.get-requires
get-requires c =
    let image : HeapImage = c.self.inside.image.now.value in
    let inside : c.args.a ≤ heap_words image = subst (λ m. c.args.a ≤ heap_words m) (sym c.self.view_is) c.requires in
    let long = ap length c.self.invariant.ranks_are ∙ length-map-range_with_len (λ k. first_rank image + live_words image 0 (64 * k)) 0 (bit_words image) in
    omega arith

-- the rank of a word of bits
rank_at : (image : HeapImage) (live ranks : List ℕ) (i found : ℕ) → AreRedirections image live ranks → i < bit_words image → found ≡ get_or ranks i 0
    → found ≡ first_rank image + live_words image 0 (64 * i)
rank_at image live ranks i found are inside is =
    is ∙ ap (λ l. get_or l i 0) are.ranks_are ∙ get_or-map-range_with_len (λ k. first_rank image + live_words image 0 (64 * k)) 0 (bit_words image) i i 0 inside (omega arith)

-- the live words below an address, counted on from the first rank
counted : (c : After-from) → c.get.result + c.from.result ≡ first_rank c.self.inside.image.now.value + live_words c.self.inside.image.now.value 0 c.args.a
counted c =
    let image : HeapImage = c.self.inside.image.now.value in
    let a : ℕ = c.args.a in
    let i : ℕ = a / 64 in
    let inside : c.args.a ≤ heap_words image = subst (λ m. c.args.a ≤ heap_words m) (sym c.self.view_is) c.requires in
    let word : ℕ = get_or c.self.inside.live.now i 0 in
    let are : AreBits (is_live_word image) (64 * i) word = bits-of image c.self.inside.live.now c.self.invariant.are_live i in
    let rank = rank_at image c.self.inside.live.now c.self.inside.ranks i c.get.result c.self.invariant (omega arith) c.get.ensures in
    let within = live-within image i (a % 64) word are (omega arith) in
    let at : 64 * i + a % 64 ≡ a = omega arith in
    let ones = c.from.ensures in
    let all = ap (live_words image 0) at in
    omega arith

pub overflow_add-result : goal.overflow_add-result
overflow_add-result c =
    let image : HeapImage = c.self.inside.image.now.value in
    let inside : c.args.a ≤ heap_words image = subst (λ m. c.args.a ≤ heap_words m) (sym c.self.view_is) c.requires in
    let count = counted ((goal.at.overflow_add-result c).After-from) in
    let few = live_words-le image 0 c.args.a in
    let prefix = prefix_end-le image c.self.invariant.valid.live_list in
    let words = c.self.invariant.valid.limits.few_words in
    omega arith

pub returns : goal.returns
returns c =
    let count = counted ((goal.at.returns c).After-from) in
    count ∙ ap (λ m. first_rank m + live_words m 0 c.args.a) c.self.view_is
