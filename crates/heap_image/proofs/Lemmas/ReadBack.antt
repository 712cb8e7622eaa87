-- A text without a fault is that of the image that it encodes, and that image is valid.
use Rattle.std.proofs.Common.{◌≡◌, ℕ, zero, suc, ◌+◌, ◌-◌, ◌*◌, ◌/◌, ◌%◌, ◌≤◌, ◌<◌, ◌^◌, inl, inr, Bool, false, ◌||◌, List, [], ◌++◌, length, get_or, take, drop, refl, sym, ◌∙◌, ap, subst, arith, ltb, eqb, add-zero, length-take, length-drop}
use Rattle.std.proofs.lemmas.Bool.{cases_lt, ltb-false, eqb-true, eqb-false, or_parts, not-false}
use Rattle.std.proofs.lemmas.Nat.{le_bytes_4, le_bytes_8}
use Rattle.std.proofs.lemmas.List.{append_assoc, append-nil, take-append-drop, get_or_past, drop_all}
use Rattle.std.proofs.lemmas.List.Elements.{All-get_or, All-take, All-drop, All-map, All-from_get_or}
use Rattle.std.proofs.lemmas.List.Folds.{drop_split}
use Rattle.std.proofs.lemmas.List.FromFn.{length-map-range_with_len}
use Rattle.std.specs.Cmp.Lexicographic.{same_text}
use Rattle.std.specs.Prelude.{map, All, Option, Some, None, not, slice_range}
use Rattle.std.specs.Option.{is_some}
use Rattle.std.specs.Str.{bytes_eq}
use Rattle.std.specs.List.{range_with_len}
use Rattle.std.specs.Int.{w32, w64, to_le_bytes}
use Rattle.heap_image.specs.Reading.{HasFittingNumbers}
use Rattle.object_heap.specs.HeapImage.{HeapImage, IsValid}
use Rattle.heap_image.specs.ImageText.{front, text, encoded_version, live_list_faults, first_some, encoded_image, encoded_numbers, encoded_words, encoded_count, encoded_region_log, encoded_length, encoded_region_words, faults, first_fault}
use Rattle.object_heap.specs.Version.{magic, max_region_log, max_regions, max_words}
use Rattle.image_streams.specs.Numbers.{numbers, u32_at, u64_at}
use Rattle.image_streams.specs.declared.fault.Fault.TheVariants.{TruncatedHeader, Magic, RegionLog, Length, TruncatedBody, Trailing}
use Rattle.object_heap.specs.declared.version.Version.{Version}
use Rattle.heap_image.proofs.Lemmas.Versions.{log_few, regions_few, words_few}
use Rattle.heap_image.proofs.Lemmas.Faultless.{AllNone, first_some-None}
use Rattle.heap_image.proofs.Lemmas.FromTail.{text-from_tail, from_tail-IsValid}
use Rattle.heap_image.proofs.Lemmas.LiveListFaults.{AllNone-from_first_some, IsFaultlessList, no_fault}

-- the magic that is known
known : (bytes : List ℕ) → not (bytes_eq (take 8 bytes) (magic (encoded_version bytes))) ≡ false → take 8 bytes ≡ magic (encoded_version bytes)
known bytes h = same_text (take 8 bytes) (magic (encoded_version bytes)) (sym (not-false (bytes_eq (take 8 bytes) (magic (encoded_version bytes))) h))

module _ (bytes : List ℕ) (fit : All (λ b. b < 256) bytes) where
  byte_fits : (xs : List ℕ) → All (λ b. b < 256) xs → (i : ℕ) → get_or xs i 0 < 256
  byte_fits xs h i = elim (cases_lt i (length xs)) [ inl l ↦ All-get_or (λ b. b < 256) xs i 0 l h | inr g ↦ let past = get_or_past xs i 0 g in omega arith ]

  part_fits : (low high : ℕ) (i : ℕ) → get_or (slice_range bytes low high) i 0 < 256
  part_fits low high = byte_fits (slice_range bytes low high) (All-take (λ b. b < 256) (high - low) (drop low bytes) (All-drop (λ b. b < 256) low bytes fit))

  part_length : (low high : ℕ) → low ≤ high → high ≤ length bytes → length (slice_range bytes low high) ≡ high - low
  part_length low high l h = let one = length-take (high - low) (drop low bytes) in let two = length-drop low bytes in omega arith

  u64_back : (o : ℕ) → o + 8 ≤ length bytes → to_le_bytes w64 (u64_at bytes o) ≡ slice_range bytes o (o + 8)
  u64_back o l = le_bytes_8 (slice_range bytes o (o + 8)) (u64_at bytes o) (part_length o (o + 8) (omega arith) l ∙ omega arith) (part_fits o (o + 8)) refl

  u32_back : (o : ℕ) → o + 4 ≤ length bytes → to_le_bytes w32 (u32_at bytes o) ≡ slice_range bytes o (o + 4)
  u32_back o l = le_bytes_4 (slice_range bytes o (o + 4)) (u32_at bytes o) (part_length o (o + 4) (omega arith) l ∙ omega arith) (part_fits o (o + 4)) refl

  u64_fits : (o : ℕ) → u64_at bytes o < 2 ^ 64
  u64_fits o = let f = part_fits o (o + 8) in omega (arith, f 0, f 1, f 2, f 3, f 4, f 5, f 6, f 7)

  u32_fits : (o : ℕ) → u32_at bytes o < 2 ^ 32
  u32_fits o = let f = part_fits o (o + 4) in omega (arith, f 0, f 1, f 2, f 3)

  numbers_back : (o b n : ℕ) → o + 8 * (b + n) ≤ length bytes → numbers (map (λ a. u64_at bytes (o + 8 * a)) (range_with_len b n)) ++ drop (o + 8 * (b + n)) bytes ≡ drop (o + 8 * b) bytes
  numbers_back o b zero l = ap (λ c. drop (o + 8 * c) bytes) (add-zero b)
  numbers_back o b (suc n) l =
      let more : ℕ → List ℕ = λ c. numbers (map (λ a. u64_at bytes (o + 8 * a)) (range_with_len (b + 1) n)) ++ drop (o + 8 * c) bytes in
      let e : b + suc n ≡ b + 1 + n = omega arith in
      let next : o + 8 * (b + 1) ≡ o + 8 * b + 8 = omega arith in
      append_assoc (to_le_bytes w64 (u64_at bytes (o + 8 * b))) (numbers (map (λ a. u64_at bytes (o + 8 * a)) (range_with_len (b + 1) n))) (drop (o + 8 * (b + suc n)) bytes)
      ∙ ap (λ c. to_le_bytes w64 (u64_at bytes (o + 8 * b)) ++ more c) e
      ∙ ap (λ xs. to_le_bytes w64 (u64_at bytes (o + 8 * b)) ++ xs) (numbers_back o (b + 1) n (omega arith) ∙ ap (λ c. drop c bytes) next)
      ∙ ap (λ xs. xs ++ drop (o + 8 * b + 8) bytes) (u64_back (o + 8 * b) (omega arith))
      ∙ sym (drop_split bytes (o + 8 * b) (o + 8 * b + 8) (omega arith))

  -- the front that the first 32 bytes encode, and the bytes after it
  pub front-back : (version : Version) → 32 ≤ length bytes → take 8 bytes ≡ magic version → front version (u32_at bytes 8) (u32_at bytes 12) (u64_at bytes 16) (u64_at bytes 24) ++ drop 32 bytes ≡ bytes
  front-back version long magic_is =
      let from_24 : to_le_bytes w64 (u64_at bytes 24) ++ drop 32 bytes ≡ drop 24 bytes = ap (λ xs. xs ++ drop 32 bytes) (u64_back 24 (omega arith)) ∙ sym (drop_split bytes 24 32 (omega arith)) in
      let from_16 : to_le_bytes w64 (u64_at bytes 16) ++ drop 24 bytes ≡ drop 16 bytes = ap (λ xs. xs ++ drop 24 bytes) (u64_back 16 (omega arith)) ∙ sym (drop_split bytes 16 24 (omega arith)) in
      let from_12 : to_le_bytes w32 (u32_at bytes 12) ++ drop 16 bytes ≡ drop 12 bytes = ap (λ xs. xs ++ drop 16 bytes) (u32_back 12 (omega arith)) ∙ sym (drop_split bytes 12 16 (omega arith)) in
      let from_8 : to_le_bytes w32 (u32_at bytes 8) ++ drop 12 bytes ≡ drop 8 bytes = ap (λ xs. xs ++ drop 12 bytes) (u32_back 8 (omega arith)) ∙ sym (drop_split bytes 8 12 (omega arith)) in
      let grouped : front version (u32_at bytes 8) (u32_at bytes 12) (u64_at bytes 16) (u64_at bytes 24) ++ drop 32 bytes ≡ magic version ++ (to_le_bytes w32 (u32_at bytes 8) ++ (to_le_bytes w32 (u32_at bytes 12) ++ (to_le_bytes w64 (u64_at bytes 16) ++ (to_le_bytes w64 (u64_at bytes 24) ++ drop 32 bytes)))) = refl in
      grouped
      ∙ ap (λ xs. magic version ++ (to_le_bytes w32 (u32_at bytes 8) ++ (to_le_bytes w32 (u32_at bytes 12) ++ (to_le_bytes w64 (u64_at bytes 16) ++ xs)))) from_24
      ∙ ap (λ xs. magic version ++ (to_le_bytes w32 (u32_at bytes 8) ++ (to_le_bytes w32 (u32_at bytes 12) ++ xs))) from_16
      ∙ ap (λ xs. magic version ++ (to_le_bytes w32 (u32_at bytes 8) ++ xs)) from_12
      ∙ ap (λ xs. magic version ++ xs) from_8
      ∙ ap (λ xs. xs ++ drop 8 bytes) (sym magic_is)
      ∙ take-append-drop 8 bytes

  module _ (none : first_fault bytes ≡ None) where
    abbrev version : Version
    version = encoded_version bytes

    -- with the numbers after the words for its live list
    abbrev image : HeapImage
    image = encoded_numbers bytes

    abbrev ok : AllNone (faults bytes)
    ok = AllNone-from_first_some (faults bytes) none

    header : 32 ≤ length bytes
    header = ltb-false (length bytes) 32 (no_fault (ltb (length bytes) 32) TruncatedHeader ok.0)

    magic_is : take 8 bytes ≡ magic version
    magic_is = known bytes (no_fault (not (bytes_eq (take 8 bytes) (magic version))) Magic ok.1.0)

    body : encoded_length bytes ≤ length bytes
    body = ltb-false (length bytes) (encoded_length bytes) (no_fault (ltb (length bytes) (encoded_length bytes)) TruncatedBody ok.1.1.1.1.0)

    no_more : length bytes ≤ encoded_length bytes
    no_more = ltb-false (encoded_length bytes) (length bytes) (no_fault (ltb (encoded_length bytes) (length bytes)) Trailing ok.1.1.1.1.1.1.1.1.1.1.0)

    count_of : length image.live ≡ encoded_count bytes
    count_of = length-map-range_with_len (λ i. u64_at bytes (32 + 8 * encoded_words bytes + 8 * i)) 0 (encoded_count bytes)

    words_of : length image.words ≡ encoded_words bytes
    words_of = length-map-range_with_len (λ a. u64_at bytes (32 + 8 * a)) 0 (encoded_words bytes)

    live_back : numbers image.live ≡ drop (32 + 8 * encoded_words bytes) bytes
    live_back =
        let n : ℕ = encoded_words bytes in
        let l : ℕ = encoded_count bytes in
        let top = no_more in
        let all = body in
        let zero' : 32 + 8 * n + 8 * 0 ≡ 32 + 8 * n = omega arith in
        let empty : drop (32 + 8 * n + 8 * (0 + l)) bytes ≡ [] = drop_all (32 + 8 * n + 8 * (0 + l)) bytes (omega arith) in
        sym (append-nil (numbers image.live)) ∙ ap (λ xs. numbers image.live ++ xs) (sym empty) ∙ numbers_back (32 + 8 * n) 0 l (omega arith) ∙ ap (λ c. drop c bytes) zero'

    numbers_are : numbers image.words ++ numbers image.live ≡ drop 32 bytes
    numbers_are =
        let n : ℕ = encoded_words bytes in
        let all = body in
        let e : 32 + 8 * n ≡ 32 + 8 * (0 + n) = omega arith in
        ap (λ xs. numbers image.words ++ xs) (live_back ∙ ap (λ c. drop c bytes) e) ∙ numbers_back 32 0 n (omega arith)

    pub text-told : text (encoded_image bytes) ≡ bytes
    text-told = text-from_tail version image refl refl ∙ joined (length image.live) (encoded_count bytes) (length image.words) (encoded_words bytes) count_of words_of ∙ ap (λ xs. front version (u32_at bytes 8) (u32_at bytes 12) (u64_at bytes 16) (u64_at bytes 24) ++ xs) numbers_are ∙ front-back version header magic_is
      where
        joined : (l l' n n' : ℕ) → l ≡ l' → n ≡ n'
            → front version (u32_at bytes 8) l n (u64_at bytes 24) ++ numbers image.words ++ numbers image.live
            ≡ front version (u32_at bytes 8) l' n' (u64_at bytes 24) ++ (numbers image.words ++ numbers image.live)
        joined l l' n n' e h = rw (e, h) refl

    logs : (ltb (encoded_region_log bytes) 3 ≡ false) × (ltb (max_region_log version) (encoded_region_log bytes) ≡ false)
    logs = or_parts (ltb (encoded_region_log bytes) 3) (ltb (max_region_log version) (encoded_region_log bytes)) (no_fault (ltb (encoded_region_log bytes) 3 || ltb (max_region_log version) (encoded_region_log bytes)) RegionLog ok.1.1.0)

    abbrev n : ℕ
    n = encoded_words bytes

    abbrev r : ℕ
    r = encoded_region_words bytes

    lengths : (((((eqb n 0 ≡ false) × (not (eqb (n % r) 0) ≡ false)) × (ltb (max_words version) n ≡ false)) × (ltb (max_regions version) (n / r) ≡ false)) × (ltb n (encoded_count bytes) ≡ false))
    lengths =
        let a : Bool = eqb n 0 in
        let b : Bool = not (eqb (n % r) 0) in
        let c : Bool = ltb (max_words version) n in
        let d : Bool = ltb (max_regions version) (n / r) in
        let e : Bool = ltb n (encoded_count bytes) in
        let five = or_parts (a || b || c || d) e (no_fault (a || b || c || d || e) Length ok.1.1.1.0) in
        let four = or_parts (a || b || c) d five.0 in
        let three = or_parts (a || b) c four.0 in
        (((or_parts a b three.0, three.1), four.1), five.1)

    nothing_wrong : first_some (live_list_faults (encoded_image bytes)) ≡ None
    nothing_wrong =
        let objects = ok.1.1.1.1.1 in
        first_some-None (live_list_faults (encoded_image bytes)) (objects.0, (objects.1.0, (objects.1.1.0, (objects.1.1.1.0, (objects.1.1.1.1.0, tt)))))

    numbers_fit : HasFittingNumbers version image
    numbers_fit =
        let some : (n ≡ 0 → ⊥) = eqb-false n 0 lengths.0.0.0.0 in
        let whole : n % r ≡ 0 = eqb-true (n % r) 0 (not-false (eqb (n % r) 0) lengths.0.0.0.1) in
        let allowed : n ≤ max_words version = ltb-false (max_words version) n lengths.0.0.1 in
        let regions : n / r ≤ max_regions version = ltb-false (max_regions version) (n / r) lengths.0.1 in
        let log : encoded_region_log bytes ≤ max_region_log version = ltb-false (max_region_log version) (encoded_region_log bytes) logs.1 in
        let live : encoded_count bytes ≤ n = ltb-false n (encoded_count bytes) lengths.1 in
        let words = words_of in
        let counted = count_of in
        let fitting = u32_fits 12 in
        let few_words : n ≤ 68719476736 = words_few version n allowed in
        let few_regions : n / r ≤ 1048576 = regions_few version (n / r) regions in
        let few_log : encoded_region_log bytes ≤ 20 = log_few version (encoded_region_log bytes) log in
        record {
          limits = record {
            region_log_low = ltb-false (encoded_region_log bytes) 3 logs.0;
            region_log_high = few_log;
            not_empty = omega arith;
            whole_regions = subst (λ m. m % r ≡ 0) (sym words_of) whole;
            few_words = omega arith;
            few_regions = subst (λ m. m / r ≤ 1048576) (sym words_of) few_regions;
            few_live = omega arith;
          };
          allowed = record {
            region_log_high = log;
            few_words = subst (λ m. m ≤ max_words version) (sym words_of) allowed;
            few_regions = subst (λ m. m / r ≤ max_regions version) (sym words_of) regions;
          };
          counted = omega arith;
          allowance = u64_fits 24;
          words = All-map (λ w. w < 2 ^ 64) (λ a. u64_at bytes (32 + 8 * a)) (range_with_len 0 n) (λ k d l. u64_fits (32 + 8 * get_or (range_with_len 0 n) k d));
          live = All-map (λ w. w < 2 ^ 64) (λ i. u64_at bytes (32 + 8 * n + 8 * i)) (range_with_len 0 (encoded_count bytes)) (λ k d l. u64_fits (32 + 8 * n + 8 * get_or (range_with_len 0 (encoded_count bytes)) k d));
          plain = refl;
          listed = refl;
          own = refl;
        }

    pub told-IsValid : IsFaultlessList → IsValid (encoded_image bytes)
    told-IsValid faultless = from_tail-IsValid faultless version image numbers_fit nothing_wrong

-- 32 bytes that begin with the magic are the front that they tell
pub front_of_bytes : (version : Version) (bytes : List ℕ) → ((i : ℕ) → get_or bytes i 0 < 256) → length bytes ≡ 32 → take 8 bytes ≡ magic version → (log count words allowance : ℕ)
    → log ≡ u32_at bytes 8 → count ≡ u32_at bytes 12 → words ≡ u64_at bytes 16 → allowance ≡ u64_at bytes 24
    → bytes ≡ front version log count words allowance
front_of_bytes version bytes fit long magic_is log count words allowance a b c d =
    let all : All (λ b. b < 256) bytes = All-from_get_or (λ b. b < 256) bytes 0 (λ i l. fit i) in
    let none : drop 32 bytes ≡ [] = drop_all 32 bytes (omega arith) in
    sym (front-back bytes all version (omega arith) magic_is)
    ∙ ap (λ xs. front version (u32_at bytes 8) (u32_at bytes 12) (u64_at bytes 16) (u64_at bytes 24) ++ xs) none
    ∙ append-nil (front version (u32_at bytes 8) (u32_at bytes 12) (u64_at bytes 16) (u64_at bytes 24))
    ∙ ap (λ l. front version l (u32_at bytes 12) (u64_at bytes 16) (u64_at bytes 24)) (sym a)
    ∙ ap (λ n. front version log n (u64_at bytes 16) (u64_at bytes 24)) (sym b)
    ∙ ap (λ n. front version log count n (u64_at bytes 24)) (sym c)
    ∙ ap (λ n. front version log count words n) (sym d)

-- the magic, by the version that was found
pub magic_found : (bytes : List ℕ) (found : Option Version) (v : Version) → found ≡ Some v → v ≡ encoded_version bytes → is_some found ≡ bytes_eq (take 8 bytes) (magic (encoded_version bytes)) → take 8 bytes ≡ magic v
magic_found bytes found v is named k = same_text (take 8 bytes) (magic (encoded_version bytes)) (ap is_some (sym is) ∙ k) ∙ ap magic (sym named)
