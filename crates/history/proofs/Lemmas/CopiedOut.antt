-- Whether all words that go from one region to another are written, by counts.
use Rattle.std.proofs.Common.{◌≡◌, ◌≢◌, ℕ, ◌+◌, ◌-◌, ◌*◌, ◌/◌, ◌%◌, ◌<◌, ◌≤◌, true, Some, sym, ap, ◌∙◌, subst, inl, inr, arith}
use Rattle.std.specs.Prelude.{◌==◌, ◌&&◌, not}
use Rattle.std.proofs.lemmas.Bool.{and_parts, eqb-false, not-true, cases_lt}
use Rattle.std.proofs.lemmas.Nat.{div-mul-add, mod-mul-add, div-add-mod', mul-le}
use Rattle.object_heap.specs.HeapImage.{HeapImage, IsValid, region_words, region_count, start_of}
use Rattle.summary.specs.NewAddresses.{prefix_end}
use Rattle.summary.specs.WordMoves.{origin, slid}
use Rattle.summary.specs.WordMoves.{reads as image_reads}
use Rattle.summary.specs.RegionData.{destination, data_words}
use Rattle.summary.specs.PlanLaws.{PlanLaws}
use Rattle.history.proofs.Lemmas.Regions.{region_some, region_low}
use Rattle.scheduler.specs.MoveTable.{reads}
use Rattle.history.specs.Slide.{Machine, IsCopiedOut, IsWritten}
use Rattle.scheduler.specs.ImageMoves.{image_table}
use Rattle.history.specs.WordMachine.{image_slide}
use Rattle.history.specs.Ledger.{taken_up_to}

-- the data of a region that another one reads
pub record IsRead (image : HeapImage) (d s : ℕ) : Type 0 where
  pub inside : s < region_count image
  pub high : prefix_end image ≤ start_of image s
  pub some : 0 < data_words image s
  pub before : destination image s < start_of image d + region_words image
  pub behind : start_of image d < destination image s + data_words image s

module _ (law : PlanLaws) (image : HeapImage) (valid : IsValid image) (pairs : (d s : ℕ) → reads (image_table image) d s ≡ (not (d == s) && image_reads image d s)) (d s : ℕ) where
  -- a region is another one than those that it reads
  other_read : reads (image_table image) d s ≡ true → (d ≢ s) × (image_reads image d s ≡ true)
  other_read e =
      let both = and_parts (not (d == s)) (image_reads image d s) (sym (pairs d s) ∙ e) in
      (eqb-false d s (not-true (d == s) both.0), both.1)

  high_read : d ≢ s → image_reads image d s ≡ true → prefix_end image ≤ start_of image s
  high_read apart e = elim (cases_lt (start_of image s) (prefix_end image)) [
    | inr le ↦ le
    | inl low ↦
        let down = law.reads-below image valid.live_list d s e in
        let up : d * region_words image ≤ s * region_words image = mul-le d (region_words image) s (region_words image) down (omega arith) in
        absurd (apart (law.reads-prefix image valid.live_list d s (omega arith) e))
  ]

  pub is_read : reads (image_table image) d s ≡ true → IsRead image d s
  is_read e =
      let other = other_read e in
      let high = high_read other.0 other.1 in
      let word = law.reads-word image valid.live_list d s other.1 in
      let into = law.region-into image valid.live_list s word.0 high word.1 word.3 in
      let low = region_low (region_words image) (slid image word.0) in
      let at : slid image word.0 / region_words image * region_words image ≡ d * region_words image = ap (λ r. r * region_words image) word.2 in
      record {
        inside = (law.reads-in_range image valid d s other.1).1;
        high = high;
        some = omega arith;
        before = law.reads-destination image valid.live_list d s other.1;
        behind = omega arith;
      }

  -- if this number of words are written, all that go there are
  pub copied_out : (w : Machine) → IsRead image d s → taken_up_to image d s ≤ w.written d → IsCopiedOut (image_slide image) w d s
  copied_out w is enough a x below region from source =
      let o = law.origin-Some image valid.live_list a x from in
      let into = law.region-into image valid.live_list s x is.high o.0 source in
      let split : a / region_words image * region_words image + a % region_words image ≡ a = div-add-mod' a (region_words image) in
      let at : a / region_words image * region_words image ≡ d * region_words image = ap (λ r. r * region_words image) region in
      let some = region_some image in
      let short : a % region_words image < w.written d = omega arith in
      subst (λ (n : ℕ). a % region_words image < n) (ap w.written (sym region)) short

  -- and if all are, this number are written
  pub copied_up_to : (w : Machine) → IsRead image d s → IsCopiedOut (image_slide image) w d s → taken_up_to image d s ≤ w.written d
  copied_up_to w is out =
      let some_data = is.some in
      let before = is.before in
      let behind = is.behind in
      let some = region_some image in
      let last : ℕ = taken_up_to image d s - 1 in
      let a : ℕ = start_of image d + last in
      let k : ℕ = a - destination image s in
      let short : last < region_words image = omega arith in
      let few : k < data_words image s = omega arith in
      let word = law.origin-in_region image valid.live_list s k is.high few in
      let at : destination image s + k ≡ a = omega arith in
      let from : origin image a ≡ Some word.0 = ap (origin image) (sym at) ∙ word.1 in
      let region : a / region_words image ≡ d = div-mul-add d (region_words image) last short in
      let offset : a % region_words image ≡ last = mod-mul-add d (region_words image) last short in
      let written : IsWritten (image_slide image) w a = out a word.0 (law.origin-below image valid.live_list a word.0 from) region from word.2 in
      let written' : last < w.written d = rw (offset, region) at written in
      omega arith
