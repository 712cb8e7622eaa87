-- The gaps before one object more.
use Rattle.std.proofs.Common.{◌≡◌, ℕ, ◌+◌, ◌-◌, ◌<◌, cond, leb, List, length, get_or, take, zero-add, sym, ◌∙◌, ap, ap₂, arith}
use Rattle.std.specs.Prelude.{map, min, sum}
use Rattle.std.specs.List.{range_with_len}
use Rattle.std.proofs.lemmas.List.{get_or-map}
use Rattle.std.proofs.lemmas.List.FromFn.{sum_by-map-range_with_len_more}
use Rattle.std.proofs.lemmas.List.Sums.{fold_more}
use Rattle.heap_dump.specs.declared.listing.class_names.ClassNames.{ClassNames}
use Rattle.heap_dump.specs.declared.listing.ListedObject.{ListedObject}
use Rattle.heap_dump.specs.ClassNames.{most_padding}
use Rattle.heap_dump.specs.Listing.{end_of_listed}
use Rattle.heap_dump.specs.Totals.{gap_before, held, last_end, last_padding, padding_before, wide_gap_before}

module _ (names : ClassNames) (objects : List ListedObject) (i : ℕ) (o : ListedObject) (l : i < length objects) (is : o ≡ get_or objects i o) where
  pub end_more : last_end (take (i + 1) objects) ≡ held (end_of_listed o)
  end_more = fold_more (λ _ x. held (end_of_listed x)) 0 objects i o l ∙ ap (λ x. held (end_of_listed x)) (sym is)

  pub most_more : last_padding names (take (i + 1) objects) ≡ most_padding names o.class
  most_more = fold_more (λ _ x. most_padding names x.class) 0 objects i o l ∙ ap (λ x. most_padding names x.class) (sym is)

  -- the gap before it, where the objects before it end at this address
  pub gap_here : (end : ℕ) → end ≡ last_end (take i objects) → o.address - end ≡ gap_before names objects i
  gap_here end at =
      ap (λ e. o.address - e) at
      ∙ ap (λ a. a - last_end (take i objects)) (ap (λ x. x.address) is ∙ sym (get_or-map (λ x. x.address) objects i o 0 l))

-- a sum with one term more, as a saturating addition has it
pub sum_more : (f : ℕ → ℕ) (i x old new : ℕ) → x ≡ f i → old ≡ held (sum (map f (range_with_len 0 i))) → new ≡ min (old + x) 18446744073709551615
    → new ≡ held (sum (map f (range_with_len 0 (i + 1))))
sum_more f i x old new is was now =
    let e = sum_by-map-range_with_len_more (λ n. n) f 0 i i (zero-add i) in omega (arith, e, is, was, now)

module _ (names : ClassNames) (objects : List ListedObject) (i gap most : ℕ)
    (here : gap ≡ gap_before names objects i) (limit : most ≡ last_padding names (take i objects)) where
  -- its words of padding, and of a wider gap
  pub padding_here : cond (leb gap most) gap 0 ≡ padding_before names objects i
  padding_here = ap₂ (λ g m. cond (leb g m) g 0) here limit

  pub wide_here : cond (leb gap most) 0 gap ≡ wide_gap_before names objects i
  wide_here = ap₂ (λ g m. cond (leb g m) 0 g) here limit
