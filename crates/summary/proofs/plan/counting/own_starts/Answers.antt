use Rattle.std.proofs.Common.{◌≡◌, ℕ, ◌+◌, ◌-◌, ◌*◌, ◌<◌, ◌≤◌, ◌++◌, ◌∷◌, [], List, length, get_or, false, min, sym, subst, ap, ◌∙◌, arith}
use Rattle.std.proofs.lemmas.List.{length_push}
use Rattle.std.proofs.lemmas.Nat.{mul-le}
use Rattle.std.specs.Prelude.{IsTrue}
use Rattle.object_heap.specs.HeapImage.{heap_words, region_words, region_count, start_of}
use Rattle.mark_bitmap.specs.Marks.{is_begin}
use Rattle.summary.specs.RegionPlaces.{IsOwnStart}
use Rattle.summary.proofs.Lemmas.Blocks.{region_in_heap}
use Rattle.summary.proofs.Lemmas.OwnStarts.{own_start-cut, each_more}
use Rattle.summary.proofs.plan.counting.own_starts.Goals as goal
use Rattle.summary.proofs.plan.counting.own_starts.Goals.{then-begin-start, else-begin-start}

pub loop-r-preserved : goal.loop-r-preserved
loop-r-preserved c =
    let image = c.args.image.now in
    let r : ℕ = c.loop-r.r in
    let n : ℕ = c.region_words-region_words.result in
    let b : ℕ = c.if-begin-start.begin in
    let sound = c.region_words-region_words.ensures.valid.live_list in
    let words = c.region_words-region_words.ensures.value in
    let at : c.from.result * n ≡ start_of image r = ap (λ m. m * n) c.from.ensures ∙ ap (λ m. r * m) words in
    let inside : r < region_count image = omega (arith, c.loop-r-test.true, c.regions-r-end.ensures.value) in
    let heap = region_in_heap image r inside in
    let before = c.loop-r.invariant in
    let fresh : (start_of image r ≤ b) × ((k : ℕ) → start_of image r ≤ k → k < b → is_begin image k ≡ false) × (b < heap_words image → IsTrue (is_begin image b)) = elim c.if-begin-start.branch [
      | then-begin-start w ↦
          let new = w.begin_from-begin-then-begin-start.ensures in
          let is = w.begin-is in
          let low = new.behind in
          (omega arith, λ k l m. new.before k (omega arith) (omega arith), λ l. subst (λ (a : ℕ). IsTrue (is_begin image a)) (sym is) (new.begins (omega arith)))
      | else-begin-start w ↦
          let is = w.begin-is in
          let high = w.if-begin-start.false in
          let left : start_of image (r - 1) ≤ start_of image r = mul-le (r - 1) (region_words image) r (region_words image) (omega arith) (omega arith) in
          (omega arith, λ k l m. before.before k (omega arith) (omega arith), λ l. subst (λ (a : ℕ). IsTrue (is_begin image a)) (sym is) (before.begins (omega arith)))
    ] in
    let own : IsOwnStart image r (min b (start_of image r + region_words image)) = own_start-cut image sound r b heap fresh.0 fresh.1 fresh.2 in
    let value : c.min.result ≡ min b (start_of image r + region_words image) = omega (arith, c.min.ensures) in
    let pushed : c.push.new.self.items ≡ c.loop-r.starts.items ++ c.min.result ∷ [] = c.in_ok-push.ensures.items in
    record {
      number = ap length pushed ∙ length_push c.loop-r.starts.items c.min.result ∙ ap (λ m. m + 1) before.number;
      each = λ s l. subst (λ (items : List ℕ). IsOwnStart image s (get_or items s 0)) (sym pushed) (each_more (IsOwnStart image) c.loop-r.starts.items r c.min.result before.number before.each (subst (IsOwnStart image r) (sym value) own) s l);
      before = λ k l m. let same : r + 1 - 1 ≡ r = omega arith in fresh.1 k (subst (λ (j : ℕ). start_of image j ≤ k) same l) m;
      begins = fresh.2;
    }
