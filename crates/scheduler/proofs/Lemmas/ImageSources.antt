-- The next source of a region of an image.
use Rattle.std.proofs.Common.{◌≡◌, ℕ, zero, suc, ◌+◌, ◌-◌, ◌<◌, ◌≤◌, Bool, true, false, List, [], ◌∷◌, Some, None, Option, sym, ap, ◌∙◌, inl, inr, arith}
use Rattle.std.specs.Prelude.{◌==◌, ◌&&◌, not, filter, max, IfSome, MatchOption}
use Rattle.std.specs.List.{range_with_len}
use Rattle.std.proofs.lemmas.Bool.{cases_Bool, cases_eq, cases_lt, and_parts, and_from, eq-eqb, ne_eqb, not_from_false, false_from_ne_true}
use Rattle.object_heap.specs.HeapImage.{HeapImage, IsValid, region_count}
use Rattle.summary.specs.WordMoves.{reads as image_reads}
use Rattle.summary.specs.Plan.{sources_from}
use Rattle.summary.specs.PlanLaws.{PlanLaws}
use Rattle.scheduler.specs.MoveTable.{reads, IsNextSource}
use Rattle.scheduler.specs.ImageMoves.{image_table}
use Rattle.scheduler.proofs.Lemmas.ImageTables.{table-reads}

-- the first number of a range that passes a test
record IsFirst (p : ℕ → Bool) (b m x : ℕ) : Type 0 where
  low : b ≤ x
  high : x < b + m
  passes : p x ≡ true
  before : (t : ℕ) → b ≤ t → t < x → p t ≡ false

filter_first : (p : ℕ → Bool) (b m x : ℕ) (rest : List ℕ) → filter p (range_with_len b m) ≡ x ∷ rest → IsFirst p b m x
filter_first p b zero x rest e = absurd (cc)
filter_first p b (suc m) x rest e =
    let rec : filter p (range_with_len (b + 1) m) ≡ x ∷ rest → IsFirst p (b + 1) m x = λ (h : filter p (range_with_len (b + 1) m) ≡ x ∷ rest). filter_first p (b + 1) m x rest h in
    elim (cases_Bool (p b)) [
      | inl passes ↦
          let f : b ∷ filter p (range_with_len (b + 1) m) ≡ x ∷ rest = rw passes at e in
          let same : b ≡ x = cc in
          record { low = omega arith; high = omega arith; passes = ap p (sym same) ∙ passes; before = λ t l k. absurd (let no : ⊥ = omega arith in no) }
      | inr fails ↦
          let later : IsFirst p (b + 1) m x = rec (rw fails at e) in
          let low : b + 1 ≤ x = later.low in
          let high : x < b + 1 + m = later.high in
          record {
            low = omega arith;
            high = omega arith;
            passes = later.passes;
            before = λ t l k. elim (cases_eq t b) [ inl same ↦ ap p same ∙ fails | inr other ↦ later.before t (omega arith) k ];
          }
    ]

filter_empty : (p : ℕ → Bool) (b m : ℕ) → filter p (range_with_len b m) ≡ [] → (t : ℕ) → b ≤ t → t < b + m → p t ≡ false
filter_empty p b zero e t l k = absurd (let no : ⊥ = omega arith in no)
filter_empty p b (suc m) e t l k =
    let rec : filter p (range_with_len (b + 1) m) ≡ [] → b + 1 ≤ t → p t ≡ false = λ (h : filter p (range_with_len (b + 1) m) ≡ []) (low : b + 1 ≤ t). filter_empty p (b + 1) m h t low (omega arith) in
    elim (cases_Bool (p b)) [
      | inl passes ↦ absurd (let f : b ∷ filter p (range_with_len (b + 1) m) ≡ [] = rw passes at e in cc)
      | inr fails ↦ elim (cases_eq t b) [ inl same ↦ ap p same ∙ fails | inr other ↦ rec (rw fails at e) (omega arith) ]
    ]

module _ (law : PlanLaws) (image : HeapImage) (valid : IsValid image) (d : ℕ) where
  -- another region, above, that isn't read, isn't a source
  unread : (s : ℕ) → (d < s → image_reads image d s ≡ false) → reads (image_table image) d s ≡ false
  unread s above = table-reads law image valid d s ∙ false_from_ne_true (not (d == s) && image_reads image d s) (λ e.
      let both = and_parts (not (d == s)) (image_reads image d s) e in
      let down = law.reads-below image valid.live_list d s both.1 in
      elim (cases_lt d s) [
        | inl up ↦ let f : false ≡ true = sym (above up) ∙ both.1 in cc
        | inr at ↦ let same : d ≡ s = omega arith in let f : not (d == s) ≡ false = ap not (eq-eqb d s same) in let g : false ≡ true = sym f ∙ both.0 in cc
      ])

  -- there is no source past the last region
  pub none_past : (from : ℕ) → region_count image ≤ from → (s : ℕ) → from ≤ s → reads (image_table image) d s ≡ false
  none_past from past s l = unread s (λ up. false_from_ne_true (image_reads image d s) (λ e. let i = law.reads-in_range image valid d s e in let no : ⊥ = omega arith in no))

  pub none_left_above : (from : ℕ) → sources_from image d (max from (d + 1)) ≡ [] → IsNextSource (image_table image) d from None
  none_left_above from e s l = unread s (λ up. false_from_ne_true (image_reads image d s) (λ h.
      let i = law.reads-in_range image valid d s h in
      let none = filter_empty (image_reads image d) (max from (d + 1)) (region_count image - max from (d + 1)) e s (omega arith) (omega arith) in
      let f : false ≡ true = sym none ∙ h in cc))

  pub next_above : (from s : ℕ) (rest : List ℕ) → sources_from image d (max from (d + 1)) ≡ s ∷ rest → IsNextSource (image_table image) d from (Some s)
  next_above from s rest e =
      let first = filter_first (image_reads image d) (max from (d + 1)) (region_count image - max from (d + 1)) s rest e in
      let low : max from (d + 1) ≤ s = first.low in (
        omega arith,
        table-reads law image valid d s ∙ and_from (not (d == s)) (image_reads image d s) (not_from_false (d == s) (ne_eqb d s (λ f. let no : ⊥ = omega arith in no))) first.passes,
        λ t l k. unread t (λ up. first.before t (omega arith) k),
      )

  pub next_inside : (from s : ℕ) → IsNextSource (image_table image) d from (Some s) → s < region_count image
  next_inside from s next =
      let e = sym (table-reads law image valid d s) ∙ next.1 in
      (law.reads-in_range image valid d s (and_parts (not (d == s)) (image_reads image d s) e).1).1

  -- what the first of the regions read from there on determines
  pub next_is : (from : ℕ) (left later : List ℕ) (next : Option ℕ) → left ≡ sources_from image d (max from (d + 1)) → MatchOption next ((left ≡ []) × (later ≡ [])) (λ s. left ≡ s ∷ later) → IsNextSource (image_table image) d from next
  next_is from left later None e h = none_left_above from (sym e ∙ h.0)
  next_is from left later (Some s) e h = next_above from s later (sym e ∙ h)

  pub all_inside : (from : ℕ) (next : Option ℕ) → IsNextSource (image_table image) d from next → IfSome next (λ s. s < region_count image)
  all_inside from None next = tt
  all_inside from (Some s) next = next_inside from s next
