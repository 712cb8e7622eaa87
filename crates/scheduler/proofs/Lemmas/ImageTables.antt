-- The moves of a valid image are a table of moves.
use Rattle.std.proofs.Common.{◌≡◌, ◌≢◌, ℕ, ◌*◌, ◌%◌, ◌<◌, ◌≤◌, Bool, true, false, length, refl, sym, ap, ◌∙◌, inl, inr, arith, zero-add}
use Rattle.std.specs.Prelude.{◌==◌, ◌&&◌, not}
use Rattle.std.specs.List.{range_with_len}
use Rattle.std.proofs.lemmas.Bool.{and_parts, ltb-true, eqb-false, not-true, cases_lt, false_from_ne_true}
use Rattle.std.proofs.lemmas.Nat.{div-add-mod', mul-le}
use Rattle.std.proofs.lemmas.List.{length-map, get_or_past}
use Rattle.std.proofs.lemmas.List.FromFn.{get_or-map-range_with_len, length-range_with_len}
use Rattle.object_heap.specs.HeapImage.{HeapImage, IsValid, heap_words, region_words, region_count, start_of}
use Rattle.summary.specs.NewAddresses.{new_top}
use Rattle.summary.specs.WordMoves.{is_to_fill}
use Rattle.summary.specs.WordMoves.{reads as image_reads}
use Rattle.summary.specs.RegionData.{reader_count}
use Rattle.summary.specs.PlanLaws.{PlanLaws}
use Rattle.scheduler.specs.MoveTable.{IsMoveTable, Slides, reads, to_fill, readers_of}
use Rattle.scheduler.specs.ImageMoves.{image_table}
use Rattle.scheduler.proofs.Lemmas.PairLists.{All-rows, rows_ascend, rows_have, rows_only, rows_count}

same_Bool : (b c : Bool) → (b ≡ true → c ≡ true) → (c ≡ true → b ≡ true) → b ≡ c
same_Bool true c f g = sym (f refl)
same_Bool false true f g = g refl
same_Bool false false f g = refl

module _ (image : HeapImage) where
  abbrev n : ℕ
  n = region_count image

  abbrev other_reads : ℕ → ℕ → Bool
  other_reads d s = not (d == s) && image_reads image d s

  pub regions-fill : length (image_table image).fill ≡ n
  regions-fill = length-map (range_with_len 0 n) (is_to_fill image) ∙ length-range_with_len 0 n

  -- the flags of the table, and how many other regions read one
  pub flag-is : (r : ℕ) → r < n → to_fill (image_table image) r ≡ is_to_fill image r
  flag-is r inside = get_or-map-range_with_len (is_to_fill image) 0 n r r false inside (zero-add r)

  pub readers-are : (s : ℕ) → s < n → readers_of (image_table image) s ≡ reader_count image s
  readers-are s inside = rows_count other_reads n 0 n s (λ d e. inside)

module _ (law : PlanLaws) (image : HeapImage) (valid : IsValid image) where
  -- only regions that there are begin below the new top
  fills_inside : (r : ℕ) → is_to_fill image r ≡ true → r < region_count image
  fills_inside r e =
      let l : start_of image r < new_top image = ltb-true (start_of image r) (new_top image) e in
      let top = law.top-le image valid.live_list in
      let whole = div-add-mod' (heap_words image) (region_words image) in
      let none : heap_words image % region_words image ≡ 0 = valid.limits.whole_regions in
      elim (cases_lt r (region_count image)) [
        | inl fine ↦ fine
        | inr past ↦
            let up : region_count image * region_words image ≤ r * region_words image = mul-le (region_count image) (region_words image) r (region_words image) past (omega arith) in
            let no : ⊥ = omega arith in absurd no
      ]

  -- the flags of the table
  pub table-to_fill : (r : ℕ) → to_fill (image_table image) r ≡ is_to_fill image r
  table-to_fill r = elim (cases_lt r (region_count image)) [
    | inl inside ↦ flag-is image r inside
    | inr past ↦
        get_or_past (image_table image).fill r false (let e = regions-fill image in omega arith)
        ∙ sym (false_from_ne_true (is_to_fill image r) (λ e. let i = fills_inside r e in let no : ⊥ = omega arith in no))
  ]

  -- the pairs of the table
  pub table-reads : (d s : ℕ) → reads (image_table image) d s ≡ (not (d == s) && image_reads image d s)
  table-reads d s = same_Bool (reads (image_table image) d s) (other_reads image d s)
      (rows_only (other_reads image) (region_count image) 0 (region_count image) d s)
      (λ e.
      let both = and_parts (not (d == s)) (image_reads image d s) e in
      let i = law.reads-in_range image valid d s both.1 in
      rows_have (other_reads image) (region_count image) 0 (region_count image) d s (omega arith) (omega arith) i.1 e)

  some_region : 1 ≤ region_count image
  some_region =
      let whole = div-add-mod' (heap_words image) (region_words image) in
      let none : heap_words image % region_words image ≡ 0 = valid.limits.whole_regions in
      let some = valid.limits.not_empty in
      elim (cases_lt 0 (region_count image)) [
        | inl fine ↦ omega arith
        | inr none' ↦
            let z : region_count image ≡ 0 = omega arith in
            let no : region_count image * region_words image ≡ 0 = ap (λ c. c * region_words image) z ∙ omega arith in
            let wrong : ⊥ = omega arith in absurd wrong
      ]

  pub table-lawful : IsMoveTable (image_table image)
  table-lawful =
      let all = regions-fill image in
      let few = valid.limits.few_regions in
      record {
        some = let l = some_region in omega arith;
        few = omega arith;
        ascending = rows_ascend (other_reads image) (region_count image) 0 (region_count image);
        slide = All-rows (other_reads image) (region_count image) (Slides (image_table image).fill) 0 (region_count image) (λ d s l k inside e.
            let both = and_parts (not (d == s)) (image_reads image d s) e in
            let down = law.reads-below image valid.live_list d s both.1 in
            let apart : d ≢ s = eqb-false d s (not-true (d == s) both.0) in
            let filled = table-to_fill d ∙ law.reads-filled image valid.live_list d s both.1 in
            (omega arith, omega arith, filled));
        two = λ s. let e = rows_count (other_reads image) (region_count image) 0 (region_count image) s (λ d e. (law.reads-in_range image valid d s (and_parts (not (d == s)) (image_reads image d s) e).1).1) in let l = law.reader_count-le image valid s in omega arith;
      }
