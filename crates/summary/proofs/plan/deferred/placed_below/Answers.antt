use Rattle.std.proofs.Common.{◌≡◌, ℕ, ◌+◌, ◌-◌, ◌≤◌, ◌<◌, List, drop, take, length, get_or, ltb, ◌∙◌, ap, arith}
use Rattle.std.specs.List.{prefix_len}
use Rattle.std.proofs.lemmas.List.{take_rest}
use Rattle.object_heap.specs.HeapImage.{HeapImage}
use Rattle.summary.specs.LiveObjects.{object_count, object_at}
use Rattle.summary.specs.NewAddresses.{new_address}
use Rattle.summary.proofs.Lemmas.Crossings.{to-le, more_below}
use Rattle.summary.proofs.plan.deferred.placed_below.Goals as goal

-- the new address of the object that is looked up
asked : (image table : HeapImage) (live : List ℕ) (n to : ℕ) → live ≡ image.live → table ≡ image → to ≡ new_address table (get_or live n 0) → to ≡ new_address image (object_at image n)
asked image table live n to same is found = found ∙ ap (λ (i : HeapImage). new_address i (get_or live n 0)) is ∙ ap (λ (l : List ℕ). new_address image (get_or l n 0)) same

more : (c : goal.After-front_below-placed) → (c.loop-placed.placed + c.front_below-placed.result ≤ object_count c.args.image.now)
    × ((i : ℕ) → i < c.loop-placed.placed + c.front_below-placed.result → new_address c.args.image.now (object_at c.args.image.now i) < c.args.limit)
more c =
    let image = c.args.image.now in
    let sound = c.live-live.ensures.valid.live_list in
    let n : ℕ = c.loop-placed.placed in
    let m : ℕ = c.front_below-placed.result in
    let live : List ℕ = c.live-live.result.now in
    let same : live ≡ image.live = c.live-live.ensures.value in
    let to = asked image c.args.redirections.now live n c.new_address-to.result same c.requires.redirections c.new_address-to.ensures in
    let test = c.loop-placed-test.true in
    let near : ℕ = get_or live n 0 + (c.args.limit - c.new_address-to.result) in
    let place : get_or live n 0 ≡ object_at image n = ap (λ (l : List ℕ). get_or l n 0) same in
    let long : length live ≡ length image.live = ap length same in
    let below = c.if-limit-to.false in
    let rest : take (length live - n) (drop n live) ≡ drop n live = take_rest live n in
    let count : m ≡ prefix_len (λ a. ltb a near) (drop n image.live) = c.front_below-placed.ensures ∙ ap (prefix_len (λ a. ltb a near)) rest ∙ ap (λ (l : List ℕ). prefix_len (λ a. ltb a near) (drop n l)) same in
    more_below image sound n m near c.args.limit (omega arith) (omega arith) (omega arith) count c.loop-placed.invariant.known

pub overflow_add-placed : goal.overflow_add-placed
overflow_add-placed c =
    let few = (more c).0 in
    let limits = c.live-live.ensures.valid.limits in
    let live = limits.few_live in
    let words = limits.few_words in
    omega arith

pub loop-placed-preserved : goal.loop-placed-preserved
loop-placed-preserved c = let h = more c in record { within = h.0; known = h.1 }

pub returns-then-limit-to : goal.returns-then-limit-to
returns-then-limit-to c =
    let image = c.args.image.now in
    let sound = c.live-live.ensures.valid.live_list in
    let n : ℕ = c.loop-placed.placed in
    let to = asked image c.args.redirections.now c.live-live.result.now n c.new_address-to.result c.live-live.ensures.value c.requires.redirections c.new_address-to.ensures in
    let over = c.if-limit-to.true in
    record {
      within = c.loop-placed.invariant.within;
      below = c.loop-placed.invariant.known;
      above = λ i l m. let up = to-le image sound n i l m in omega arith;
    }
