-- Sums and lists over indexes, with one index more.
use Rattle.std.proofs.Common.{◌≡◌, ℕ, Bool, cond, ◌+◌, ◌-◌, ◌≤◌, refl, List, [], ◌∷◌, ◌++◌, zero-add, sym, ◌∙◌, ap, ap₂, arith}
use Rattle.std.specs.Prelude.{filter, filter_map, map, min, sum, Option, None, Some}
use Rattle.std.specs.List.{range_with_len}
use Rattle.std.specs.Option.{option_to_list}
use Rattle.std.proofs.lemmas.List.{map-id}
use Rattle.std.proofs.lemmas.List.Elements.{filter-append, filter_map-append}
use Rattle.std.proofs.lemmas.List.FromFn.{map-range_with_len_more, sum_by-map-range_with_len_more}
use Rattle.object_pairs.specs.Conflicts.{held}

-- a sum with one term more, as a saturating addition has it
pub sum_more : (f : ℕ → ℕ) (i x old new : ℕ) → x ≡ f i → old ≡ held (sum (map f (range_with_len 0 i))) → new ≡ min (old + x) 18446744073709551615
    → new ≡ held (sum (map f (range_with_len 0 (i + 1))))
sum_more f i x old new is was now =
    let e = sum_by-map-range_with_len_more (λ n. n) f 0 i i (zero-add i) in omega (arith, e, is, was, now)

-- one index more
pub range_more : (a n j : ℕ) → a + n ≡ j → range_with_len a (n + 1) ≡ range_with_len a n ++ j ∷ []
range_more a n j e =
    sym (map-id (range_with_len a (n + 1))) ∙ map-range_with_len_more (λ (k : ℕ). k) a n j e
    ∙ ap (λ (ks : List ℕ). ks ++ j ∷ []) (map-id (range_with_len a n))

-- what a function gives of the indexes up to one more
pub kept_more : {X : Type 0} (f : ℕ → Option X) (first i : ℕ) → first ≤ i
    → filter_map f (range_with_len first (i + 1 - first)) ≡ filter_map f (range_with_len first (i - first)) ++ option_to_list (f i)
kept_more {X} f first i le =
    let longer : i + 1 - first ≡ (i - first) + 1 = omega arith in
    let last : first + (i - first) ≡ i = omega arith in
    ap (λ n. filter_map f (range_with_len first n)) longer
    ∙ ap (λ (ks : List ℕ). filter_map f ks) (range_more first (i - first) i last)
    ∙ filter_map-append f (range_with_len first (i - first)) (i ∷ [])
    ∙ ap (λ (xs : List X). filter_map f (range_with_len first (i - first)) ++ xs) (one_kept (f i))
  where
    one_kept : (o : Option X) → filter_map (λ (k : ℕ). o) (0 ∷ []) ≡ option_to_list o
    one_kept None = refl
    one_kept (Some x) = refl

-- the indexes that pass a test, up to one more
pub filtered_more : (p : ℕ → Bool) (i : ℕ) → filter p (range_with_len 0 (i + 1)) ≡ filter p (range_with_len 0 i) ++ cond (p i) (i ∷ []) []
filtered_more p i = ap (λ (ks : List ℕ). filter p ks) (range_more 0 i i (zero-add i)) ∙ filter-append p (range_with_len 0 i) (i ∷ [])
