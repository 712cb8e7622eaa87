use Rattle.std.proofs.Common.{◌≡◌, ℕ, ◌+◌, ◌-◌, ◌*◌, List, get_or, sym, ◌∙◌, ap, arith}
use Rattle.object_heap.specs.HeapImage.{HeapImage, start_of, size_at}
use Rattle.summary.specs.LiveObjects.{object_at}
use Rattle.summary.specs.NewAddresses.{new_address}
use Rattle.summary.specs.Plan.{place_in}
use Rattle.summary.proofs.Lemmas.Crossings.{none_below, last_crosses, last_stays_inside}
use Rattle.summary.proofs.plan.deferred.deferred_in.Goals as goal
use Rattle.summary.proofs.plan.deferred.deferred_in.Goals.{else-start-to-via-then-start-to+else-end-to, else-start-to-via-else-start-to}

pub returns-then-placed-eq0 : goal.returns-then-placed-eq0
returns-then-placed-eq0 c =
    let sound = c.region_words-region_words.ensures.valid.live_list in
    ap (place_in c.args.image.now c.args.d) (sym (none_below c.args.image.now sound c.args.d c.args.placed c.if-placed-eq0.true c.requires.placed))

pub returns-then-end-to : goal.returns-then-end-to
returns-then-end-to c =
    let image = c.args.image.now in
    let d = c.args.d in
    let sound = c.region_words-region_words.ensures.valid.live_list in
    let n : ℕ = c.args.placed in
    let words = c.region_words-region_words.ensures.value in
    let start : c.from.result * c.region_words-region_words.result ≡ start_of image d = ap (λ m. m * c.region_words-region_words.result) c.from.ensures ∙ ap (λ m. d * m) words in
    let at : get_or c.live.result.now (n - 1) 0 ≡ object_at image (n - 1) = ap (λ (l : List ℕ). get_or l (n - 1) 0) c.live.ensures.value in
    let to : c.new_address-to.result ≡ new_address image (object_at image (n - 1)) = c.new_address-to.ensures ∙ ap (λ (i : HeapImage). new_address i (get_or c.live.result.now (n - 1) 0)) c.requires.redirections ∙ ap (new_address image) at in
    let some = c.if-placed-eq0.false in
    let size : c.size_at.result ≡ size_at image (object_at image (n - 1)) = c.size_at.ensures ∙ ap (λ (i : HeapImage). size_at i (get_or c.live.result.now (n - 1) 0)) c.requires.marks ∙ ap (size_at image) at in
    let low = c.if-start-to.true in
    let over = c.if-end-to.true in
    (let same : c.new_address-to.result - c.from.result * c.region_words-region_words.result + 1 ≡ new_address image (object_at image (n - 1)) - start_of image d + 1 = omega arith in same)
    ∙ ap (place_in image d) (sym (last_crosses image sound d n (omega arith) c.requires.placed (omega arith) (omega arith)))

pub returns-else-start-to : goal.returns-else-start-to
returns-else-start-to c =
    let image = c.args.image.now in
    let d = c.args.d in
    let sound = c.region_words-region_words.ensures.valid.live_list in
    let n : ℕ = c.args.placed in
    let words = c.region_words-region_words.ensures.value in
    let start : c.from.result * c.region_words-region_words.result ≡ start_of image d = ap (λ m. m * c.region_words-region_words.result) c.from.ensures ∙ ap (λ m. d * m) words in
    let at : get_or c.live.result.now (n - 1) 0 ≡ object_at image (n - 1) = ap (λ (l : List ℕ). get_or l (n - 1) 0) c.live.ensures.value in
    let to : c.new_address-to.result ≡ new_address image (object_at image (n - 1)) = c.new_address-to.ensures ∙ ap (λ (i : HeapImage). new_address i (get_or c.live.result.now (n - 1) 0)) c.requires.redirections ∙ ap (new_address image) at in
    let some = c.if-placed-eq0.false in
    ap (place_in image d) (sym (last_stays_inside image sound d n (omega arith) c.requires.placed (λ first over. elim c.else-start-to.branch [
      | else-start-to-via-then-start-to+else-end-to w ↦
          let size : w.size_at.result ≡ size_at image (object_at image (n - 1)) = w.size_at.ensures ∙ ap (λ (i : HeapImage). size_at i (get_or c.live.result.now (n - 1) 0)) c.requires.marks ∙ ap (size_at image) at in
          let short = w.if-end-to.false in
          let no : ⊥ = omega arith in no
      | else-start-to-via-else-start-to w ↦ let high = w.if-start-to.false in let no : ⊥ = omega arith in no
    ])))
