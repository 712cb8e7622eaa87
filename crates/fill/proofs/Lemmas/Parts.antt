-- Parts of a heap: consecutive regions at whose borders no deferred object has references on both sides.
use Rattle.std.proofs.Common.{◌≡◌, ℕ, zero, suc, ◌+◌, ◌*◌, ◌^◌, ◌≤◌, ◌<◌, inl, inr, true, false, List, ◌++◌, length, get_or, take, drop, refl, sym, ◌∙◌, ap, subst, arith}
use Rattle.std.specs.Prelude.{Option, None, Some, map}
use Rattle.std.specs.List.{concat, range_with_len}
use Rattle.std.proofs.Math.Nat.{div-add-mod'}
use Rattle.std.proofs.lemmas.Bool.{cases_lt, true≢false, false_from_ne_true}
use Rattle.std.proofs.lemmas.Nat.{mul-le, mod_below}
use Rattle.std.proofs.Math.Seq.{take-append_seam, drop-append_seam}
use Rattle.std.proofs.lemmas.List.{map-append}
use Rattle.std.proofs.lemmas.List.Elements.{All-append}
use Rattle.std.proofs.lemmas.List.Folds.{concat-append}
use Rattle.std.proofs.lemmas.List.FromFn.{get_or-map-range_with_len, length-map-range_with_len}
use Rattle.raw_region.specs.Region.{with_words, part}
use Rattle.object_heap.specs.Layout.{references_in}
use Rattle.object_heap.specs.HeapImage.{HeapImage, IsValid, FormHeap, AreBlocks, heap_words, region_words, region_count, region_of, start_of}
use Rattle.summary.specs.Compaction.{moved_word, redirected_word}
use Rattle.summary.specs.RegionData.{region_addresses, deferred}
use Rattle.summary.specs.Updates.{is_late_reference}
use Rattle.fill.proofs.Lemmas.Lists.{range_with_len-add}
use Rattle.fill.proofs.Lemmas.Regions.{region_some}
use Rattle.fill.specs.MovedHeap.{moved_regions_from, redirected_where, words_from, is_late_before, IsCut, IsMovedPart, IsUpdatedPart}
use Rattle.fill.proofs.Lemmas.WrittenTo.{next_start, all_regions}
use Rattle.fill.proofs.Lemmas.Late.{length-words, words_not, words_same, words_row, late-parts, late-from, late-all, late_up_to, up_to-outside, up_to-within, up_to-not}

-- the value that is there
value : Option ℕ → ℕ
value None = 0
value (Some x) = x

module _ (image : HeapImage) where
  abbrev S : ℕ
  S = region_words image

  -- where a part ends
  pub part_end : (first count : ℕ) → start_of image first + count * S ≡ start_of image (first + count)
  part_end first count = omega arith

  -- consecutive regions made one by one are one sequence of words
  pub joined_regions : (g : ℕ → ℕ) (first count : ℕ) → concat (map (λ r. map g (region_addresses image r)) (range_with_len first count)) ≡ map g (range_with_len (start_of image first) (count * S))
  joined_regions g first zero = let none : 0 ≡ 0 * S = omega arith in ap (λ n. map g (range_with_len (start_of image first) n)) none
  joined_regions g first (suc n) =
      let next : start_of image (first + 1) ≡ start_of image first + S = sym (next_start image first (first + 1) refl) in
      let more : S + n * S ≡ suc n * S = omega arith in
      ap (λ xs. map g (region_addresses image first) ++ xs) (joined_regions g (first + 1) n ∙ ap (λ a. map g (range_with_len a (n * S))) next)
      ∙ sym (map-append g (range_with_len (start_of image first) S) (range_with_len (start_of image first + S) (n * S)))
      ∙ ap (map g) (sym (range_with_len-add (start_of image first) S (n * S)))
      ∙ ap (λ m. map g (range_with_len (start_of image first) m)) more

  -- each has the size of a region
  pub blocks_from : (g : ℕ → ℕ) (first count : ℕ) → AreBlocks image.region_log (map (λ r. map g (region_addresses image r)) (range_with_len first count))
  blocks_from g first count k d l =
      let long = length-map-range_with_len (λ r. map g (region_addresses image r)) first count in
      ap (length {A = ℕ}) (get_or-map-range_with_len (λ r. map g (region_addresses image r)) first count k (first + k) d (omega arith) refl) ∙ length-map-range_with_len g (start_of image (first + k)) S

  pub split_regions : (first few others : ℕ) → moved_regions_from image first (few + others) ≡ moved_regions_from image first few ++ moved_regions_from image (first + few) others
  split_regions first few others =
      let g : ℕ → List ℕ = λ r. map (moved_word image) (region_addresses image r) in
      ap (map g) (range_with_len-add first few others) ∙ map-append g (range_with_len first few) (range_with_len (first + few) others)

  pub split_words : (first few others : ℕ) → words_from image first (few + others) (is_late_reference image)
      ≡ words_from image first few (is_late_reference image) ++ words_from image (first + few) others (is_late_reference image)
  split_words first few others =
      let g : ℕ → ℕ = redirected_where image (is_late_reference image) in
      let a : ℕ = start_of image first in
      let both : (few + others) * S ≡ few * S + others * S = omega arith in
      let next : a + few * S ≡ start_of image (first + few) = part_end first few in
      ap (λ n. map g (range_with_len a n)) both
      ∙ ap (map g) (range_with_len-add a (few * S) (others * S))
      ∙ map-append g (range_with_len a (few * S)) (range_with_len (a + few * S) (others * S))
      ∙ ap (λ b. map g (range_with_len a (few * S)) ++ map g (range_with_len b (others * S))) next

  module _ (valid : IsValid image) where
    pub part_fits : (first count : ℕ) → first + count ≤ region_count image → start_of image first + count * S ≤ heap_words image
    part_fits first count l =
        let end = part_end first count in
        let up = mul-le (first + count) S (region_count image) S l (omega arith) in
        let all = all_regions image valid in
        omega arith

    pub part_form : (first : ℕ) (blocks : List (List ℕ)) → IsMovedPart image first blocks → FormHeap image.region_log blocks
    part_form first blocks part =
        let n : ℕ = length blocks in
        let long : length (concat blocks) ≡ n * S = ap (λ bs. length (concat bs)) part.moved ∙ ap length (joined_regions (moved_word image) first n) ∙ length-map-range_with_len (moved_word image) (start_of image first) (n * S) in
        let fits = part_fits first n part.inside in
        record {
          log = valid.limits.region_log_high;
          whole = subst (AreBlocks image.region_log) (sym part.moved) (blocks_from (moved_word image) first n);
          few = omega (arith, long, fits, valid.limits.few_words);
        }

  pub part_words : (first : ℕ) (blocks : List (List ℕ)) → IsMovedPart image first blocks → concat blocks ≡ words_from image first (length blocks) (is_late_before image first)
  part_words first blocks part =
      ap concat part.moved ∙ joined_regions (moved_word image) first (length blocks)
      ∙ words_same image (start_of image first) (length blocks * S) (λ p. false) (is_late_before image first) (λ p l m. sym (part.begins p l))

  -- where a region begins and ends
  pub begun_in : (x d : ℕ) → region_of image x ≡ d → (start_of image d ≤ x) × (x < start_of image d + S)
  begun_in x d e =
      let whole = div-add-mod' x S in
      let small = mod_below x S (region_some image) in
      let start : start_of image (region_of image x) ≡ start_of image d = ap (start_of image) e in
      (omega arith, omega arith)

  -- once all regions of a part are visited, all late references in it are redirected
  pub part_late : (first count : ℕ)
      → ((p : ℕ) → is_late_reference image p ≡ true → (d : ℕ) × (x : ℕ) × (deferred image d ≡ Some x) × (x < p) × (p ≤ x + references_in image.layout (moved_word image x)))
      → ((p d x : ℕ) → deferred image d ≡ Some x → x < p → p ≤ x + references_in image.layout (moved_word image x) → is_late_reference image p ≡ true)
      → ((d x : ℕ) → deferred image d ≡ Some x → region_of image x ≡ d)
      → words_from image first count (is_late_before image (first + count)) ≡ words_from image first count (is_late_reference image)
  part_late first count late told region =
      words_same image (start_of image first) (count * S) (is_late_before image (first + count)) (is_late_reference image) (λ p l m.
      late-all image (first + count) p (late p) (told p) (λ d x h less.
      let begin = begun_in x d (region d x h) in
      let end = part_end first count in
      elim (cases_lt d (first + count)) [
        | inl low ↦ low
        | inr high ↦ let up = mul-le (first + count) S d S high (omega arith) in let no : ⊥ = omega arith in absurd no
      ]))

  -- an object that begins in a region of a part
  pub begin_inside : (first count d x : ℕ) → first ≤ d → d < first + count → region_of image x ≡ d → (start_of image first ≤ x) × (x < start_of image first + count * S)
  begin_inside first count d x low high region =
      let begin = begun_in x d region in
      let end = part_end first count in
      let down = mul-le first S d S low (omega arith) in
      let next = next_start image d (d + 1) refl in
      let up = mul-le (d + 1) S (first + count) S (omega arith) (omega arith) in
      (omega arith, omega arith)

  -- the references of an object that is deferred in a part lie in that part
  pub late_inside : (first count d x : ℕ) → first ≤ d → d < first + count → IsCut image (first + count) → deferred image d ≡ Some x → region_of image x ≡ d
      → (start_of image first ≤ x) × (x + references_in image.layout (moved_word image x) < start_of image first + count * S)
  late_inside first count d x low high cut here region =
      let begin = begin_inside first count d x low high region in
      let end = part_end first count in
      let n : ℕ = references_in image.layout (moved_word image x) in (
        begin.0,
        elim (cases_lt (x + n) (start_of image first + count * S)) [
          | inl less ↦ less
          | inr more ↦
              let some : x < x + n = omega arith in
              absurd (true≢false (sym (late-from image (first + count) (x + n) d x high here some (omega arith)) ∙ cut (x + n) (omega arith)))
        ],
      )

  -- after an object whose references end in its region, no earlier object has a reference
  pub cut_behind : (d x : ℕ) → deferred image d ≡ Some x → region_of image x ≡ d
      → ((e y : ℕ) → deferred image e ≡ Some y → region_of image y ≡ e)
      → is_late_before image d x ≡ false → x + references_in image.layout (moved_word image x) < start_of image (d + 1) → IsCut image (d + 1)
  unfolding value
  cut_behind d x here region regions none ends p l = false_from_ne_true (is_late_before image (d + 1) p) (λ h.
      let at = late-parts image (d + 1) p h in
      let e : ℕ = at.0 in
      let y : ℕ = at.1 in
      elim (cases_lt e d) [
        | inl less ↦
            let begin = begun_in x d region in
            let other = begun_in y e (regions e y at.3) in
            let next = next_start image e (e + 1) refl in
            let up = mul-le (e + 1) S d S (omega arith) (omega arith) in
            true≢false (sym (late-from image d x e y less at.3 (omega arith) (omega (arith, at.5))) ∙ none)
        | inr more ↦
            let same : e ≡ d = (let l = at.2 in omega arith) in
            let is : y ≡ x = ap value (sym at.3 ∙ ap (deferred image) same ∙ here) in
            let n : references_in image.layout (moved_word image y) ≡ references_in image.layout (moved_word image x) = ap (λ z. references_in image.layout (moved_word image z)) is in
            let no : ⊥ = (let reach = at.5 in omega arith) in absurd no
      ])

  -- a place p of a part of which the references up to there are redirected
  module _ (first d x p : ℕ) (blocks : List (List ℕ)) (words : concat blocks ≡ words_from image first (length blocks) (late_up_to image d x (start_of image first + p))) where
    abbrev q : ℕ
    q = start_of image first + p

    pub late_length : length (concat blocks) ≡ length blocks * S
    late_length = ap length words ∙ length-words image (start_of image first) (length blocks * S) (late_up_to image d x q)

    pub late_old : (k : ℕ) → p ≤ k → k < length blocks * S → is_late_before image d (start_of image first + k) ≡ false → get_or (concat blocks) k 0 ≡ moved_word image (start_of image first + k)
    late_old k low l none = ap (λ ws. get_or ws k 0) words ∙ words_not image (start_of image first) (length blocks * S) (late_up_to image d x q) k l (up_to-not image d x q (start_of image first + k) (omega arith) none)

    -- m more references of the object are redirected
    pub late_row : (m : ℕ) (f : ℕ → ℕ) → p + m ≤ length blocks * S → x < q
        → ((k : ℕ) → p ≤ k → k < p + m → (is_late_before image d (start_of image first + k) ≡ false)
        × (f (moved_word image (start_of image first + k)) ≡ redirected_word image (moved_word image (start_of image first + k))))
        → with_words (concat blocks) p (map f (part (concat blocks) p m)) ≡ words_from image first (length blocks) (late_up_to image d x (start_of image first + (p + m)))
    late_row m f l behind here =
        let a : ℕ = start_of image first in
        let next : q + m ≡ a + (p + m) = omega arith in
        ap (λ ws. with_words ws p (map f (part ws p m))) words
        ∙ words_row image a (length blocks * S) (late_up_to image d x q) (late_up_to image d x (q + m)) p m l f
        (λ k low high. (
          up_to-not image d x q (a + k) (omega arith) (here k low high).0,
          up_to-within image d x (q + m) (a + k) (omega arith) (omega arith),
          (here k low high).1,
        ))
        (λ k out. up_to-outside image d x q m (a + k) (elim out [
          | inl low ↦ inl (omega arith)
          | inr high ↦ inr (omega arith)
        ]))
        ∙ ap (λ n. words_from image first (length blocks) (late_up_to image d x n)) next

  -- a part that is cut in two
  pub split_part : (first cut : ℕ) (blocks low high : List (List ℕ)) → IsMovedPart image first blocks → IsCut image (first + cut)
      → low ≡ take cut blocks → high ≡ drop cut blocks → length low ≡ cut → length high + cut ≡ length blocks
      → IsMovedPart image first low × IsMovedPart image (first + length low) high
  split_part first cut blocks low high part middle is_low is_high few rest =
      let below : List (List ℕ) = moved_regions_from image first cut in
      let above : List (List ℕ) = moved_regions_from image (first + cut) (length high) in
      let made : length below ≡ cut = length-map-range_with_len (λ r. map (moved_word image) (region_addresses image r)) first cut in
      let all : blocks ≡ below ++ above = part.moved ∙ ap (λ n. moved_regions_from image first n) (omega arith) ∙ split_regions first cut (length high) in (
        record {
          inside = (let inside = part.inside in omega arith);
          moved = is_low ∙ ap (take cut) all ∙ ap (λ n. take n (below ++ above)) (sym made) ∙ take-append_seam below above ∙ ap (λ n. moved_regions_from image first n) (sym few);
          begins = part.begins;
          ends = subst (λ d. IsCut image d) (ap (λ n. first + n) (sym few)) middle;
        },
        record {
          inside = (let inside = part.inside in omega arith);
          moved = is_high ∙ ap (drop cut) all ∙ ap (λ n. drop n (below ++ above)) (sym made) ∙ drop-append_seam below above ∙ ap (λ n. moved_regions_from image (first + n) (length high)) (sym few);
          begins = subst (λ d. IsCut image d) (ap (λ n. first + n) (sym few)) middle;
          ends = subst (λ d. IsCut image d) (omega arith) part.ends;
        },
      )

  -- two adjacent parts that are updated
  pub join_parts : (first few others all : ℕ) (low high : List (List ℕ)) → few + others ≡ all → IsUpdatedPart image first few low → IsUpdatedPart image (first + few) others high
      → IsUpdatedPart image first all (low ++ high)
  join_parts first few others all low high e below above = record {
    whole = All-append (λ block. length block ≡ 2 ^ image.region_log) low high below.whole above.whole;
    words = concat-append low high ∙ ap (λ ws. ws ++ concat high) below.words ∙ ap (λ ws. words_from image first few (is_late_reference image) ++ ws) above.words
        ∙ sym (split_words first few others) ∙ ap (λ n. words_from image first n (is_late_reference image)) e;
  }
