-- Ranks of words in two parts.
use Rattle.std.proofs.Common.{◌≡◌, ℕ, zero, suc, ◌+◌, ◌-◌, ◌*◌, ◌/◌, ◌%◌, ◌^◌, ◌≤◌, ◌<◌, inl, inr, List, [], ◌∷◌, ◌++◌, map, length, get_or, refl, sym, ◌∙◌, ap, subst, arith, zero-add}
use Rattle.std.specs.List.{range_with_len}
use Rattle.std.specs.Int.RustNames.{count_ones}
use Rattle.std.proofs.lemmas.Bool.{cases_lt}
use Rattle.std.proofs.lemmas.List.{length-append, get_or_append_left, get_or-append_right}
use Rattle.std.proofs.lemmas.List.FromFn.{map-range_with_len_more}
use Rattle.std.proofs.lemmas.List.Sums.{sum_by_more}
use Rattle.summary.specs.Ranks.{ones_before, rank_of, ranks_of}

-- the count before the next word
pub ones-next : (words : List ℕ) (i : ℕ) → i < length words → ones_before words (i + 1) ≡ ones_before words i + count_ones (get_or words i 0 % 2 ^ 64)
ones-next words i l = sum_by_more (λ word. count_ones (word % 2 ^ 64)) words i 0 l

-- functions that agree below n make the same list
pub map-along : (f g : ℕ → ℕ) (n : ℕ) → ((k : ℕ) → k < n → f k ≡ g k) → map f (range_with_len 0 n) ≡ map g (range_with_len 0 n)
map-along f g zero h = refl
map-along f g (suc n) h =
    let next : suc n ≡ n + 1 = omega arith in
    let long : map f (range_with_len 0 (suc n)) ≡ map f (range_with_len 0 (n + 1)) = ap (λ m. map f (range_with_len 0 m)) next in
    let long' : map g (range_with_len 0 (suc n)) ≡ map g (range_with_len 0 (n + 1)) = ap (λ m. map g (range_with_len 0 m)) next in
    long
    ∙ map-range_with_len_more f 0 n n (zero-add n)
    ∙ ap (λ l. l ++ f n ∷ []) (map-along f g n (λ k l. h k (omega arith)))
    ∙ ap (λ x. map g (range_with_len 0 n) ++ x ∷ []) (h n (omega arith))
    ∙ sym (map-range_with_len_more g 0 n n (zero-add n))
    ∙ sym long'

-- the ranks of all words
pub ranks-made : (count : ℕ → ℕ) (starts steps : List ℕ) (n words : ℕ) → length steps ≡ n → n ≡ words
    → ((k : ℕ) → k < n → rank_of starts steps k ≡ count k)
    → ranks_of starts steps ≡ map count (range_with_len 0 words)
ranks-made count starts steps n words made all are =
    let whole : length steps ≡ words = made ∙ all in
    ap (λ m. map (rank_of starts steps) (range_with_len 0 m)) whole
    ∙ map-along (rank_of starts steps) count words (λ k l. are k (omega arith))

-- one more step
pub ranks-more : (count : ℕ → ℕ) (starts steps : List ℕ) (i rank start : ℕ) → length steps ≡ i
    → i < 1024 * length starts → 1024 * length starts ≤ i + 1024
    → get_or starts (length starts - 1) 0 ≡ start → start ≤ rank → rank ≡ count i
    → ((k : ℕ) → k < i → rank_of starts steps k ≡ count k)
    → (k : ℕ) → k < i + 1 → rank_of starts (steps ++ (rank - start) ∷ []) k ≡ count k
ranks-more count starts steps i rank start made begun few last above is are k l = elim (cases_lt k i) [
  | inl below ↦
      let same : get_or (steps ++ (rank - start) ∷ []) k 0 ≡ get_or steps k 0 = get_or_append_left steps ((rank - start) ∷ []) 0 k (omega arith) in
      let was = are k below in
      omega arith
  | inr here ↦
      let at : k ≡ i = omega arith in
      let block : i / 1024 ≡ length starts - 1 = omega arith in
      let new : get_or (steps ++ (rank - start) ∷ []) i 0 ≡ rank - start
      = get_or-append_right steps ((rank - start) ∷ []) i i 0 made (omega arith) ∙ ap (λ n. get_or ((rank - start) ∷ []) n 0) (let z : i - i ≡ 0 = omega arith in z) in
      let first : get_or starts (i / 1024) 0 ≡ start = ap (λ n. get_or starts n 0) block ∙ last in
      let all : rank_of starts (steps ++ (rank - start) ∷ []) i ≡ count i = omega arith in
      subst (λ n. rank_of starts (steps ++ (rank - start) ∷ []) n ≡ count n) (sym at) all
]

-- a new block leaves the ranks so far
pub ranks-block : (count : ℕ → ℕ) (starts steps : List ℕ) (i rank : ℕ) → i ≤ 1024 * length starts
    → ((k : ℕ) → k < i → rank_of starts steps k ≡ count k)
    → (k : ℕ) → k < i → rank_of (starts ++ rank ∷ []) steps k ≡ count k
ranks-block count starts steps i rank begun are k l =
    let same : get_or (starts ++ rank ∷ []) (k / 1024) 0 ≡ get_or starts (k / 1024) 0 = get_or_append_left starts (rank ∷ []) 0 (k / 1024) (omega arith) in
    let was = are k l in
    omega arith

-- what holds once the block of word i has its first rank
pub record IsBegun (count : ℕ → ℕ) (starts steps : List ℕ) (i start rank : ℕ) : Type 0 where
  pub inside : i < 1024 * length starts
  pub few : 1024 * length starts ≤ i + 1024
  pub last : get_or starts (length starts - 1) 0 ≡ start
  pub above : start ≤ rank
  pub near : rank + 65536 * length starts ≤ start + 64 * i + 65536
  pub ranks : (k : ℕ) → k < i → rank_of starts steps k ≡ count k

-- word i is the first of its block
pub first-begun : (count : ℕ → ℕ) (starts steps after : List ℕ) (i rank start : ℕ) → i % 1024 ≡ 0
    → i ≤ 1024 * length starts → 1024 * length starts < i + 1024
    → ((k : ℕ) → k < i → rank_of starts steps k ≡ count k)
    → (start ≡ rank) × (after ≡ starts ++ rank ∷ []) → IsBegun count after steps i start rank
first-begun count starts steps after i rank start block begun no_more are new =
    let exact : i ≡ 1024 * length starts = omega arith in
    let long : length (starts ++ rank ∷ []) ≡ length starts + 1 = length-append starts (rank ∷ []) in
    let at : length (starts ++ rank ∷ []) - 1 ≡ length starts = omega arith in
    let z : length starts - length starts ≡ 0 = omega arith in
    let last : get_or (starts ++ rank ∷ []) (length starts) 0 ≡ rank
    = get_or-append_right starts (rank ∷ []) (length starts) (length starts) 0 refl (omega arith) ∙ ap (λ n. get_or (rank ∷ []) n 0) z in
    subst (λ (s : ℕ). IsBegun count after steps i s rank) (sym new.0)
    (subst (λ (xs : List ℕ). IsBegun count xs steps i rank rank) (sym new.1) (record {
      inside = omega arith;
      few = omega arith;
      last = ap (λ n. get_or (starts ++ rank ∷ []) n 0) at ∙ last;
      above = omega arith;
      near = omega arith;
      ranks = ranks-block count starts steps i rank begun are;
    }))

-- or not
pub other-begun : (count : ℕ → ℕ) (starts steps after : List ℕ) (i rank before start : ℕ) → 0 < i % 1024
    → i ≤ 1024 * length starts → 1024 * length starts < i + 1024
    → (0 < length starts → get_or starts (length starts - 1) 0 ≡ before) → before ≤ rank
    → rank + 65536 * length starts ≤ before + 64 * i + 65536
    → ((k : ℕ) → k < i → rank_of starts steps k ≡ count k)
    → (start ≡ before) × (after ≡ starts) → IsBegun count after steps i start rank
other-begun count starts steps after i rank before start block begun no_more last above near are new =
    subst (λ (s : ℕ). IsBegun count after steps i s rank) (sym new.0)
    (subst (λ (xs : List ℕ). IsBegun count xs steps i before rank) (sym new.1) (record {
      inside = omega arith;
      few = omega arith;
      last = last (omega arith);
      above = above;
      near = near;
      ranks = are;
    }))
