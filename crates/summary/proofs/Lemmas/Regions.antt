-- The live words of a region and the places to which they go.
use Rattle.std.proofs.Common.{◌≡◌, ℕ, zero, suc, ◌+◌, ◌-◌, ◌*◌, ◌/◌, ◌%◌, ◌≤◌, ◌<◌, inl, inr, Bool, true, false, cond, ◌&&◌, ◌||◌, List, [], ◌∷◌, length, get_or, refl, sym, ◌∙◌, ap, arith, ltb, leb}
use Rattle.std.proofs.lemmas.Bool.{false≢true, cases_Bool, cases_lt, cond-true, lt-ltb, le-ltb, le-leb, ltb-true, leb-true, and_parts, and_from, false_from_ne_true}
use Rattle.std.proofs.lemmas.Nat.{pow_pos, div-add-mod', mod_below, div-mul-add, le-div, mul-le}
use Rattle.std.proofs.lemmas.List.{get_or_default}
use Rattle.std.proofs.lemmas.List.Folds.{Any-from_list_any, list_any-from_Any}
use Rattle.std.proofs.lemmas.List.FromFn.{get_or-map-range_with_len}
use Rattle.std.specs.Prelude.{count_by}
use Rattle.std.specs.List.{range_with_len, list_any}
use Rattle.object_heap.specs.HeapImage.{HeapImage, HasLiveList, region_words, size_at, end_of, is_word_of, is_live_word, live_words, start_of, region_of, region_count}
use Rattle.summary.proofs.Lemmas.Spans.{count_by-cons, count_by-or, is_in_parts}
use Rattle.summary.specs.NewAddresses.{prefix_end}
use Rattle.summary.specs.WordMoves.{slid}
use Rattle.summary.specs.RegionData.{partial_words, own_words, destination, data_words, region_data}
use Rattle.summary.specs.Plan.{AreRegions}
use Rattle.summary.specs.declared.region_data.RegionData.{RegionData}
use Rattle.summary.proofs.Lemmas.Prefix.{prefix_end_is}
use Rattle.summary.proofs.Lemmas.Destinations.{count_by-none, count_by-same, destination-live_words}
use Rattle.summary.proofs.Lemmas.Words.{count_by_nth, count_by-range-le, live_words-add, live_words-more, live_below, one_owner, slid-high}

-- ---- regions as numbers

pub region_is : (R r q : ℕ) → r * R ≤ q → q < r * R + R → q / R ≡ r
region_is R r q l h =
    let o : ℕ = q - r * R in
    let e : q ≡ r * R + o = omega arith in
    ap (λ n. n / R) e ∙ div-mul-add r R o (omega arith)

pub region_low : (R q : ℕ) → q / R * R ≤ q
region_low R q = let w = div-add-mod' q R in omega arith

pub region_high : (R q : ℕ) → 0 < R → q < q / R * R + R
region_high R q some = let w = div-add-mod' q R in let m = mod_below q R some in omega arith

pub region-le : (R a b : ℕ) → 0 < R → a ≤ b → a / R ≤ b / R
region-le R a b some l = let w = region_low R a in le-div (a / R) b R some (omega arith)

-- of two regions the lower ends where the higher begins, or below
pub region_apart : (R a b : ℕ) → a < b → a * R + R ≤ b * R
region_apart R a b l =
    let e : suc a * R ≤ b * R = mul-le (suc a) R b R l (omega arith) in
    let m : suc a * R ≡ a * R + R = omega arith in
    omega arith

-- ---- counts

pub ltb_same : (a b c d : ℕ) → (a < b → c < d) → (b ≤ a → d ≤ c) → ltb a b ≡ ltb c d
ltb_same a b c d f g = elim (cases_lt a b) [
  | inl l ↦ lt-ltb a b l ∙ sym (lt-ltb c d (f l))
  | inr m ↦ le-ltb a b m ∙ sym (le-ltb c d (g m))
]

-- a test that passes at each address before one that passes does so at as many as it passes, from the front
pub front_run : (t : ℕ → Bool) (b n : ℕ) → ((q r : ℕ) → b ≤ q → q ≤ r → t r ≡ true → t q ≡ true) → (i : ℕ) → i < n → t (b + i) ≡ ltb i (count_by t (range_with_len b n))
front_run t b zero h i l = let no : ⊥ = omega arith in absurd no
front_run t b (suc n) h i l = elim (cases_Bool (t b)) [
  | inl passes ↦
      let c : ℕ = count_by t (range_with_len (b + 1) n) in
      let one = count_by-cons t b (range_with_len (b + 1) n) in
      let first : cond {A = ℕ} (t b) 1 0 ≡ 1 = cond-true (t b) 1 0 passes in
      elim (cases_lt 0 i) [
        | inl some ↦
            let more = front_run t (b + 1) n (λ q r m. h q r (omega arith)) (i - 1) (omega arith) in
            let at : b + i ≡ b + 1 + (i - 1) = omega arith in
            ap t at ∙ more ∙ ltb_same (i - 1) c i (count_by t (range_with_len b (suc n))) (λ m. omega arith) (λ m. omega arith)
        | inr none ↦
            let at : b + i ≡ b = omega arith in
            ap t at ∙ passes ∙ sym (lt-ltb i (count_by t (range_with_len b (suc n))) (omega arith))
      ]
  | inr fails ↦
      let never : (q : ℕ) → b ≤ q → t q ≡ false = λ q m. false_from_ne_true (t q) (λ e. false≢true (sym fails ∙ h b q (omega arith) m e)) in
      let zero' : count_by t (range_with_len b (suc n)) ≡ 0 = count_by-none t b (suc n) (λ q m k. never q m) in
      never (b + i) (omega arith) ∙ sym (le-ltb i (count_by t (range_with_len b (suc n))) (omega arith))
]

shuffle : (f g w a c : Bool) → (f || g) ≡ true → (((f && w) || a) || ((g && w) || c)) ≡ (w || (a || c))
shuffle true g true a c h = refl
shuffle true true false a c h = refl
shuffle true false false a c h = refl
shuffle false true true true c h = refl
shuffle false true true false c h = refl
shuffle false true false a c h = refl
shuffle false false w a c h = absurd (false≢true h)

list_any-split : (f g w : ℕ → Bool) → ((a : ℕ) → (f a || g a) ≡ true) → (xs : List ℕ) → (list_any (λ a. f a && w a) xs || list_any (λ a. g a && w a) xs) ≡ list_any w xs
list_any-split f g w h [] = refl
list_any-split f g w h (x ∷ xs) = shuffle (f x) (g x) (w x) (list_any (λ a. f a && w a) xs) (list_any (λ a. g a && w a) xs) (h x) ∙ ap (λ b. w x || b) (list_any-split f g w h xs)

lt_or_ge : (a b : ℕ) → (ltb a b || leb b a) ≡ true
lt_or_ge a b = elim (cases_lt a b) [
  | inl l ↦ ap (λ c. c || leb b a) (lt-ltb a b l)
  | inr g ↦ ap (λ c. c || leb b a) (le-ltb a b g) ∙ le-leb b a g
]

module _ (image : HeapImage) where
  abbrev R : ℕ
  R = region_words image

  abbrev P : ℕ
  P = prefix_end image

  pub region_some : 0 < R
  region_some = pow_pos image.region_log

  -- the prefix end is a region start, so a region that begins below it ends there or below
  pub prefix_region : (r : ℕ) → start_of image r < P → start_of image r + R ≤ P
  prefix_region r l =
      let some = region_some in
      let whole = div-add-mod' P R in
      let none : P % R ≡ 0 = (prefix_end_is image).aligned in
      let k : ℕ = P / R in
      let e : k * R ≡ P = omega arith in
      elim (cases_lt r k) [
        | inl less ↦ let a = region_apart R r k less in omega arith
        | inr more ↦ let a : k * R ≤ r * R = mul-le k R r R more (omega arith) in let no : ⊥ = omega arith in absurd no
      ]

  abbrev pub begun_left : ℕ → ℕ → Bool
  begun_left s q = list_any (λ a. ltb a s && is_word_of image a q) image.live

  abbrev pub begun_here : ℕ → ℕ → Bool
  begun_here s q = list_any (λ a. leb s a && is_word_of image a q) image.live

  begun_left_down : (s q r : ℕ) → s ≤ q → q ≤ r → begun_left s r ≡ true → begun_left s q ≡ true
  begun_left_down s q r l m h =
      let at = Any-from_list_any (λ a. ltb a s && is_word_of image a r) image.live h in
      let x : ℕ = at.1 in
      let both = and_parts (ltb x s) (is_word_of image x r) at.4 in
      let less : x < s = ltb-true x s both.0 in
      let parts = is_in_parts x (size_at image x) r both.1 in
      let high : r < x + size_at image x = parts.1 in
      list_any-from_Any (λ a. ltb a s && is_word_of image a q) image.live (at.0, x, at.2, at.3, and_from (ltb x s) (is_word_of image x q) both.0 (and_from (leb x q) (ltb q (end_of image x)) (le-leb x q (omega arith)) (lt-ltb q (end_of image x) (omega arith))))

  -- the words at the front of a region that belong to an object of an earlier region are its partial words
  pub partial-front : (r i : ℕ) → i < R → begun_left (start_of image r) (start_of image r + i) ≡ ltb i (partial_words image r)
  partial-front r i l = front_run (begun_left (start_of image r)) (start_of image r) R (λ q k m n. begun_left_down (start_of image r) q k m n) i l

module _ (image : HeapImage) (sound : HasLiveList image) where
  abbrev place : ℕ → ℕ
  place i = get_or image.live i 0

  apart : (s q : ℕ) → begun_left image s q ≡ true → begun_here image s q ≡ false
  apart s q h = false_from_ne_true (begun_here image s q) (λ k.
      let at = Any-from_list_any (λ a. ltb a s && is_word_of image a q) image.live h in
      let on = Any-from_list_any (λ a. leb s a && is_word_of image a q) image.live k in
      let x : ℕ = at.1 in
      let y : ℕ = on.1 in
      let i : ℕ = at.0 in
      let j : ℕ = on.0 in
      let l : i < length image.live = at.2 in
      let m : j < length image.live = on.2 in
      let isx : place i ≡ x = get_or_default image.live i 0 x l ∙ at.3 in
      let isy : place j ≡ y = get_or_default image.live j 0 y m ∙ on.3 in
      let bothx = and_parts (ltb x s) (is_word_of image x q) at.4 in
      let bothy = and_parts (leb s y) (is_word_of image y q) on.4 in
      let less : x < s = ltb-true x s bothx.0 in
      let more : s ≤ y = leb-true s y bothy.0 in
      let px = is_in_parts x (size_at image x) q bothx.1 in
      let py = is_in_parts y (size_at image y) q bothy.1 in
      let same : place i ≡ place j = one_owner image sound i j q l m (rw isx px.0) (rw isx px.1) (rw isy py.0) (rw isy py.1) in
      let no : ⊥ = omega arith in no)

  -- the partial words and the own words are the live words of a region
  pub data-live_words : (r : ℕ) → partial_words image r + own_words image r ≡ live_words image (start_of image r) (start_of image r + region_words image)
  data-live_words r =
      let s : ℕ = start_of image r in
      let n : ℕ = region_words image in
      let long : s + n - s ≡ n = omega arith in
      let both = count_by-or (begun_left image s) (begun_here image s) (apart s) (range_with_len s n) in
      let same = count_by-same (λ q. begun_left image s q || begun_here image s q) (is_live_word image) s n (λ q l m. list_any-split (λ a. ltb a s) (λ a. leb s a) (λ a. is_word_of image a q) (λ a. lt_or_ge a s) image.live) in
      sym both ∙ same ∙ ap (λ m. count_by (is_live_word image) (range_with_len s m)) (sym long)

  -- the live word of a region with k live ones before it there
  pub data_nth : (r k : ℕ) → k < data_words image r → (q : ℕ) × (start_of image r ≤ q) × (q < start_of image r + region_words image) × (is_live_word image q ≡ true) × (live_words image (start_of image r) q ≡ k)
  data_nth r k l =
      let s : ℕ = start_of image r in
      let n : ℕ = region_words image in
      let all = data-live_words r in
      let long : s + n - s ≡ n = omega arith in
      let all' : data_words image r ≡ count_by (is_live_word image) (range_with_len s n) = all ∙ ap (λ m. count_by (is_live_word image) (range_with_len s m)) long in
      count_by_nth (is_live_word image) s n k (omega arith)

  pub data-le : (r : ℕ) → data_words image r ≤ region_words image
  data-le r =
      let s : ℕ = start_of image r in
      let n : ℕ = region_words image in
      let all = data-live_words r in
      let long : s + n - s ≡ n = omega arith in
      let all' : data_words image r ≡ count_by (is_live_word image) (range_with_len s n) = all ∙ ap (λ m. count_by (is_live_word image) (range_with_len s m)) long in
      let few = count_by-range-le (is_live_word image) s n in
      omega arith

  -- a live word is one of the data of its region
  pub data_before : (r q : ℕ) → start_of image r ≤ q → q < start_of image r + region_words image → is_live_word image q ≡ true → live_words image (start_of image r) q < data_words image r
  data_before r q l m live =
      let s : ℕ = start_of image r in
      let e : ℕ = s + region_words image in
      let all = data-live_words r in
      let more = live_words-more image s q e l m live in
      omega arith

  -- above the prefix end the live words of a region go to its destination and on, without a gap
  pub slid-destination : (r q : ℕ) → prefix_end image ≤ start_of image r → start_of image r ≤ q → is_live_word image q ≡ true → slid image q ≡ destination image r + live_words image (start_of image r) q
  slid-destination r q l m live =
      let n = live_below image sound q live in
      let to = destination-live_words image sound r l (omega arith) in
      let high = slid-high image q (omega arith) in
      let cut = live_words-add image (prefix_end image) (start_of image r) q l m in
      omega arith

  pub region-into : (r q : ℕ) → prefix_end image ≤ start_of image r → is_live_word image q ≡ true → region_of image q ≡ r → (destination image r ≤ slid image q) × (slid image q < destination image r + data_words image r)
  region-into r q above live e =
      let n : ℕ = region_words image in
      let low = region_low n q in
      let high = region_high n q (region_some image) in
      let same : q / n * n ≡ r * n = ap (λ m. m * n) e in
      let to = slid-destination r q above (omega arith) live in
      let few = data_before r q (omega arith) (omega arith) live in
      (omega arith, omega arith)

  pub region-onto : (r k : ℕ) → prefix_end image ≤ start_of image r → k < data_words image r → (q : ℕ) × (is_live_word image q ≡ true) × (region_of image q ≡ r) × (slid image q ≡ destination image r + k)
  region-onto r k above l =
      let w = data_nth r k l in
      let q : ℕ = w.0 in
      let live : is_live_word image q ≡ true = w.3 in
      let count : live_words image (start_of image r) q ≡ k = w.4 in
      let to = slid-destination r q above w.1 live in
      (q, live, region_is (region_words image) r q w.1 w.2, omega arith)

-- the data of a region in the table of all
pub region_at : (image : HeapImage) (regions : List RegionData) → AreRegions image regions → (r j : ℕ) (none : RegionData) → r < region_count image → j ≡ r → get_or regions j none ≡ region_data image r
region_at image regions all r j none inside e =
    ap (λ n. get_or regions n none) e ∙ ap (λ rs. get_or rs r none) all ∙ get_or-map-range_with_len (region_data image) 0 (region_count image) r r none inside (omega arith)
