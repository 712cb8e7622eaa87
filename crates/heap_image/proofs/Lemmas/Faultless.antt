-- The text of a valid image has no fault.
use Rattle.std.proofs.Common.{◌≡◌, ℕ, zero, suc, ◌+◌, ◌-◌, ◌*◌, ◌/◌, ◌%◌, ◌≤◌, ◌<◌, ◌^◌, Bool, true, false, ◌&&◌, ◌||◌, List, [], ◌∷◌, ◌++◌, length, get_or, drop, take, refl, sym, ◌∙◌, ap, subst, arith, length-append, ltb, leb, eqb, add-one}
use Rattle.std.proofs.lemmas.Bool.{cond-false, le-ltb, lt-ltb, lt-leb, eq-eqb, ne_eqb, or_from, and_right}
use Rattle.std.proofs.lemmas.List.FromFn.{get_or-range_with_len, length-range_with_len}
use Rattle.std.specs.Prelude.{find, zip, flat_map, map, Option, Some, None, option_map, not, IfSome}
use Rattle.std.specs.Str.{bytes_eq}
use Rattle.std.specs.List.{range_with_len}
use Rattle.std.specs.Option.{option_or}
use Rattle.std.proofs.lemmas.List.{append-nil}
use Rattle.std.proofs.lemmas.List.Folds.{find-append}
use Rattle.heap_image.specs.Reading.{HasFittingNumbers}
use Rattle.image_streams.specs.declared.fault.Fault.TheVariants.{TruncatedHeader, RegionLog, Length, TruncatedBody, LiveOrder, Header, Overlap, Reference, Trailing, Magic, Root}
use Rattle.object_heap.specs.HeapImage.{HeapImage, IsValid, HasLiveList, heap_words, end_of, size_at, references_at, kind_at, reference_at, is_null_or_live, AreRoots, roots_or}
use Rattle.object_heap.specs.Version.{max_region_log, max_regions, max_words, magic}
use Rattle.object_heap.specs.declared.version.Version.{Version}
use Rattle.heap_image.specs.ImageText.{front, text, listed_text, with_tail, from_tail, encoded_version, encoded_image, front_faults, layout_faults, live_list_faults, encoded_words, encoded_count, encoded_region_log, encoded_length, encoded_region_words, first_fault, first_some, fault_if, object_faults, first_object_fault}
use Rattle.object_heap.specs.ObjectFaults.{misplaced_root, is_misplaced, misplaced_index, unsound_header, overlapping, dangling}
use Rattle.image_streams.specs.Numbers.{numbers}
use Rattle.image_streams.specs.declared.fault.Fault.{Fault}
use Rattle.heap_image.proofs.Lemmas.LiveWords.{Apart, live_apart, live_end-le}
use Rattle.heap_image.proofs.Lemmas.TextLaws.{valid_numbers, encoded_image-append, from_tail-with_tail, length_told, fronted, front_fits, front_log, front_live, front_words, front_length}
use Rattle.heap_image.specs.Front.{FitsFront}
use Rattle.heap_image.proofs.Lemmas.Versions.{known_magic, magic_names}

pub find_none : {X : Type 0} (t : X → Bool) (xs : List X) (d : X) → ((i : ℕ) → i < length xs → t (get_or xs i d) ≡ false) → find t xs ≡ None
find_none t [] d h = refl
find_none t (x ∷ xs) d h = cond-false (t x) (Some x) (find t xs) (h 0 (omega arith)) ∙ find_none t xs d (λ i l. h (suc i) (omega arith))

find_none_in_pairs : (size : ℕ → ℕ) (low : ℕ) (xs : List ℕ) → Apart size low xs → find (λ (p : ℕ × ℕ). ltb p.1 (p.0 + size p.0)) (zip xs (drop 1 xs)) ≡ None
find_none_in_pairs size low [] h = refl
find_none_in_pairs size low (a ∷ []) h = refl
find_none_in_pairs size low (a ∷ b ∷ xs) h =
    let f : a + size a ≤ b = h.1.0 in
    cond-false (ltb b (a + size a)) (Some (a, b)) (find (λ (p : ℕ × ℕ). ltb p.1 (p.0 + size p.0)) (zip (b ∷ xs) xs)) (le-ltb b (a + size a) f) ∙ find_none_in_pairs size (a + size a) (b ∷ xs) h.1

module _ (image : HeapImage) (sound : HasLiveList image) where
  -- a live address is above the one before it
  ascending : (i : ℕ) → suc i < length image.live → get_or image.live i 0 < get_or image.live (suc i) 0
  ascending i l =
      let some = (sound.sound i 0 (omega arith)).header in
      let apart : end_of image (get_or image.live i 0) ≤ get_or image.live (i + 1) 0 = sound.apart i 0 (omega arith) in
      let next : get_or image.live (i + 1) 0 ≡ get_or image.live (suc i) 0 = ap (λ n. get_or image.live n 0) (add-one i) in
      omega arith

  placed : (i : ℕ) → i < length image.live → (leb (heap_words image) (get_or image.live i 0) || (ltb 0 i && leb (get_or image.live i 0) (get_or image.live (i - 1) 0))) ≡ false
  placed i l =
      let low = (sound.sound i 0 l).header in
      let high = live_end-le image sound i l in
      or_from (leb (heap_words image) (get_or image.live i 0)) (ltb 0 i && leb (get_or image.live i 0) (get_or image.live (i - 1) 0)) (lt-leb (heap_words image) (get_or image.live i 0) (omega arith)) (behind i l)
    where
      behind : (i : ℕ) → i < length image.live → (ltb 0 i && leb (get_or image.live i 0) (get_or image.live (i - 1) 0)) ≡ false
      behind zero l = refl
      behind (suc i) l =
          let e : suc i - 1 ≡ i = omega arith in
          and_right (ltb 0 (suc i)) (leb (get_or image.live (suc i) 0) (get_or image.live (suc i - 1) 0)) (ap (λ n. leb (get_or image.live (suc i) 0) (get_or image.live n 0)) e ∙ lt-leb (get_or image.live (suc i) 0) (get_or image.live i 0) (ascending i l))

  pub misplaced_index-None : misplaced_index (heap_words image) image.live ≡ None
  misplaced_index-None = find_none (is_misplaced (heap_words image) image.live) (range_with_len 0 (length image.live)) 0 (λ i l.
      let n = length-range_with_len 0 (length image.live) in
      let at : get_or (range_with_len 0 (length image.live)) i 0 ≡ i = get_or-range_with_len 0 (length image.live) i 0 (omega arith) ∙ omega arith in
      ap (is_misplaced (heap_words image) image.live) at ∙ placed i (omega arith))

  pub unsound_header-None : unsound_header image ≡ None
  unsound_header-None = find_none (λ a. not (eqb (kind_at image a) 1) || eqb (size_at image a) 0 || leb (size_at image a) (references_at image a) || ltb (heap_words image) (end_of image a)) image.live 0 (λ i l.
      let a : ℕ = get_or image.live i 0 in
      let h = sound.sound i 0 l in
      let one : not (eqb (kind_at image a) 1) ≡ false = ap not (eq-eqb (kind_at image a) 1 h.object) in
      let two : eqb (size_at image a) 0 ≡ false = ne_eqb (size_at image a) 0 (λ z. let s = h.header in omega arith) in
      let three : leb (size_at image a) (references_at image a) ≡ false = lt-leb (size_at image a) (references_at image a) h.references in
      let four : ltb (heap_words image) (end_of image a) ≡ false = le-ltb (heap_words image) (end_of image a) h.inside in
      rw (one, two, three, four) refl)

  pub overlapping-None : overlapping image ≡ None
  overlapping-None = ap (option_map (λ (p : ℕ × ℕ). p.1)) (find_none_in_pairs (size_at image) 0 image.live (live_apart image sound))

pub find_none_in_flat_map : {X : Type 0} (t : X → Bool) (g : ℕ → List X) (xs : List ℕ) → ((i : ℕ) → i < length xs → find t (g (get_or xs i 0)) ≡ None) → find t (flat_map g xs) ≡ None
find_none_in_flat_map t g [] h = refl
find_none_in_flat_map t g (x ∷ xs) h = find-append t (g x) (flat_map g xs) ∙ ap (λ o. option_or o (find t (flat_map g xs))) (h 0 (omega arith)) ∙ find_none_in_flat_map t g xs (λ i l. h (suc i) (omega arith))

pub find_none_in_fields : (t : ℕ × ℕ → Bool) (a b n : ℕ) → ((f : ℕ) → f < b + n → t (a, f) ≡ false) → find t (map (λ f. (a, f)) (range_with_len b n)) ≡ None
find_none_in_fields t a b zero h = refl
find_none_in_fields t a b (suc n) h = cond-false (t (a, b)) (Some (a, b)) (find t (map (λ f. (a, f)) (range_with_len (b + 1) n))) (h b (omega arith)) ∙ find_none_in_fields t a (b + 1) n (λ f l. h f (omega arith))

-- no entry of the list has a value
abbrev pub AllNone : {A : Type 0} → List (Option A) → Type 0
AllNone [] = Unit {0}
AllNone (o ∷ others) = (o ≡ None) × AllNone others

-- the first of two lists of faults decides
pub first_some-append : {A : Type 0} (xs ys : List (Option A)) (x : A) → first_some xs ≡ Some x → first_some (xs ++ ys) ≡ Some x
first_some-append [] ys x h = cc
first_some-append (None ∷ xs) ys x h = first_some-append xs ys x h
first_some-append (Some y ∷ xs) ys x h = h

pub first_some_past : {A : Type 0} (xs ys : List (Option A)) → first_some xs ≡ None → first_some (xs ++ ys) ≡ first_some ys
first_some_past [] ys h = refl
first_some_past (None ∷ xs) ys h = first_some_past xs ys h
first_some_past (Some y ∷ xs) ys h = cc

pub first_some-None : {A : Type 0} (os : List (Option A)) → AllNone os → first_some os ≡ None
first_some-None [] h = refl
first_some-None (None ∷ others) h = first_some-None others h.1
first_some-None (Some x ∷ others) h = h.0

pub fault_if-None : (b : Bool) (f : Fault) → b ≡ false → fault_if b f ≡ None
fault_if-None b f e = ap (λ c. fault_if c f) e

module _ (image : HeapImage) (sound : HasLiveList image) where
  pub dangling-None : dangling image ≡ None
  dangling-None = find_none_in_flat_map (λ (p : ℕ × ℕ). not (is_null_or_live image (reference_at image p.0 p.1))) (λ a. map (λ f. (a, f)) (range_with_len 0 (references_at image a))) image.live (λ i l.
      find_none_in_fields (λ (p : ℕ × ℕ). not (is_null_or_live image (reference_at image p.0 p.1))) (get_or image.live i 0) 0 (references_at image (get_or image.live i 0)) (λ f k. ap not (sound.references i 0 l f (omega arith))))

-- a front within the limits of its version is without a fault, whatever follows it
module _ (version : Version) (log live_count words allowance : ℕ) (limits : FitsFront version log words live_count) (behind : List ℕ) where
  abbrev whole : List ℕ
  whole = fronted version log live_count words allowance limits behind

  version_told : encoded_version whole ≡ version
  version_told = magic_names version

  region_words_told : encoded_region_words whole ≡ 2 ^ log
  region_words_told = ap (λ n. 2 ^ n) (front_log version log live_count words allowance limits behind)

  lengths : (eqb (encoded_words whole) 0 || not (eqb (encoded_words whole % encoded_region_words whole) 0) || ltb (max_words (encoded_version whole)) (encoded_words whole) || ltb (max_regions (encoded_version whole)) (encoded_words whole / encoded_region_words whole) || ltb (encoded_words whole) (encoded_count whole)) ≡ false
  lengths =
      let one : eqb words 0 ≡ false = ne_eqb words 0 (λ z. let s = limits.limits.not_empty in omega arith) in
      let two : not (eqb (words % 2 ^ log) 0) ≡ false = ap not (eq-eqb (words % 2 ^ log) 0 limits.limits.whole_regions) in
      let three : ltb (max_words version) words ≡ false = le-ltb (max_words version) words limits.allowed.few_words in
      let four : ltb (max_regions version) (words / 2 ^ log) ≡ false = le-ltb (max_regions version) (words / 2 ^ log) limits.allowed.few_regions in
      let five : ltb words live_count ≡ false = le-ltb words live_count limits.limits.few_live in
      let told : (eqb (encoded_words whole) 0 || not (eqb (encoded_words whole % encoded_region_words whole) 0) || ltb (max_words version) (encoded_words whole) || ltb (max_regions version) (encoded_words whole / encoded_region_words whole) || ltb (encoded_words whole) (encoded_count whole)) ≡ false =
      rw (front_words version log live_count words allowance limits behind) (rw region_words_told (rw (front_live version log live_count words allowance limits behind) (rw (one, two, three, four, five) refl))) in
      ap (λ v. eqb (encoded_words whole) 0 || not (eqb (encoded_words whole % encoded_region_words whole) 0) || ltb (max_words v) (encoded_words whole) || ltb (max_regions v) (encoded_words whole / encoded_region_words whole) || ltb (encoded_words whole) (encoded_count whole)) version_told
      ∙ told

  pub front_faults-None : first_some (front_faults whole) ≡ None
  front_faults-None =
      let long : length whole ≡ 32 + length behind = length-append (front version log live_count words allowance) behind in
      let logs_told : (ltb (encoded_region_log whole) 3 || ltb (max_region_log version) (encoded_region_log whole)) ≡ false = rw (front_log version log live_count words allowance limits behind) (or_from (ltb log 3) (ltb (max_region_log version) log) (le-ltb log 3 limits.limits.region_log_low) (le-ltb (max_region_log version) log limits.allowed.region_log_high)) in
      let logs : (ltb (encoded_region_log whole) 3 || ltb (max_region_log (encoded_version whole)) (encoded_region_log whole)) ≡ false = ap (λ v. ltb (encoded_region_log whole) 3 || ltb (max_region_log v) (encoded_region_log whole)) version_told ∙ logs_told in
      first_some-None (front_faults whole) (
        fault_if-None (ltb (length whole) 32) TruncatedHeader (le-ltb (length whole) 32 (omega arith)),
        (
          fault_if-None (not (bytes_eq (take 8 whole) (magic (encoded_version whole)))) Magic (known_magic version),
          (
            fault_if-None (ltb (encoded_region_log whole) 3 || ltb (max_region_log (encoded_version whole)) (encoded_region_log whole)) RegionLog logs,
            (fault_if-None (eqb (encoded_words whole) 0 || not (eqb (encoded_words whole % encoded_region_words whole) 0) || ltb (max_words (encoded_version whole)) (encoded_words whole) || ltb (max_regions (encoded_version whole)) (encoded_words whole / encoded_region_words whole) || ltb (encoded_words whole) (encoded_count whole)) Length lengths, tt),
          ),
        ),
      )

  -- too few bytes come after it
  pub layout_fault-truncated : length behind < 8 * (words + live_count) → first_some (layout_faults whole) ≡ Some TruncatedBody
  layout_fault-truncated few =
      let long : length whole ≡ 32 + length behind = length-append (front version log live_count words allowance) behind in
      let told = front_length version log live_count words allowance limits behind in
      let short : ltb (length whole) (encoded_length whole) ≡ true = lt-ltb (length whole) (encoded_length whole) (omega arith) in
      first_some_past (front_faults whole) (fault_if (ltb (length whole) (encoded_length whole)) TruncatedBody ∷ []) front_faults-None
      ∙ ap (λ b. first_some (fault_if b TruncatedBody ∷ [])) short

  pub first_fault-truncated : length behind < 8 * (words + live_count) → first_fault whole ≡ Some TruncatedBody
  first_fault-truncated few =
      first_some-append (layout_faults whole) (live_list_faults (encoded_image whole) ++ (fault_if (ltb (encoded_length whole) (length whole)) Trailing ∷ [])) TruncatedBody (layout_fault-truncated few)

-- of the text of an image, and what follows it
module _ (version : Version) (image : HeapImage) (fits : HasFittingNumbers version image) (rest : List ℕ) where
  abbrev said : List ℕ
  said = listed_text version image ++ rest

  pub layout_faults-None : first_some (layout_faults said) ≡ None
  layout_faults-None =
      let whole = length-append (listed_text version image) rest in
      let told = length_told version image fits rest in
      first_some_past (front_faults said) (fault_if (ltb (length said) (encoded_length said)) TruncatedBody ∷ []) (front_faults-None version image.region_log (length image.live) (heap_words image) image.allowance (front_fits version image fits) ((numbers image.words ++ numbers image.live) ++ rest))
      ∙ first_some-None (fault_if (ltb (length said) (encoded_length said)) TruncatedBody ∷ []) (fault_if-None (ltb (length said) (encoded_length said)) TruncatedBody (le-ltb (length said) (encoded_length said) (omega arith)), tt)

  -- what is first wrong is what is wrong with the live list, and else the rest
  pub first_fault-append : first_fault said ≡ first_some (live_list_faults (from_tail version image) ++ (fault_if (ltb (length (listed_text version image)) (length said)) Trailing ∷ []))
  first_fault-append =
      first_some_past (layout_faults said) (live_list_faults (encoded_image said) ++ (fault_if (ltb (encoded_length said) (length said)) Trailing ∷ [])) layout_faults-None
      ∙ ap (λ i. first_some (live_list_faults i ++ (fault_if (ltb (encoded_length said) (length said)) Trailing ∷ []))) (encoded_image-append version image fits rest)
      ∙ ap (λ n. first_some (live_list_faults (from_tail version image) ++ (fault_if (ltb n (length said)) Trailing ∷ []))) (length_told version image fits rest)

-- sound objects have no fault
pub first_object_fault-None : (image : HeapImage) → HasLiveList image → first_object_fault image ≡ None
first_object_fault-None image sound =
    first_some-None (object_faults image) (
      ap (option_map Header) (unsound_header-None image sound),
      (
        ap (option_map Overlap) (overlapping-None image sound),
        (ap (option_map (λ (p : ℕ × ℕ). Reference p.0 p.1)) (dangling-None image sound), tt),
      ),
    )

-- a live list without a fault, under roots without one
pub live_list_faults-None : (image : HeapImage) → HasLiveList image → misplaced_root image ≡ None → first_some (live_list_faults image) ≡ None
live_list_faults-None image sound placed =
    first_some-None (live_list_faults image) (
      ap (option_map Root) placed,
      (
        ap (option_map LiveOrder) (misplaced_index-None image sound),
        (
          ap (option_map Header) (unsound_header-None image sound),
          (
            ap (option_map Overlap) (overlapping-None image sound),
            (ap (option_map (λ (p : ℕ × ℕ). Reference p.0 p.1)) (dangling-None image sound), tt),
          ),
        ),
      ),
    )

-- the roots of a valid image lead into the heap
placed_roots : (image : HeapImage) → IsValid image → (roots : Option (List ℕ)) → image.roots ≡ roots → find (λ i. ltb (heap_words image) (get_or (roots_or [] roots) i 0)) (range_with_len 0 (length (roots_or [] roots))) ≡ None
placed_roots image valid None e = refl
placed_roots image valid (Some roots) e =
    let rooted : AreRoots image roots = subst (λ o. IfSome o (AreRoots image)) e valid.rooted in
    find_none (λ i. ltb (heap_words image) (get_or roots i 0)) (range_with_len 0 (length roots)) 0 (λ i l.
    let n = length-range_with_len 0 (length roots) in
    let inside : i < length roots = omega arith in
    let at : get_or (range_with_len 0 (length roots)) i 0 ≡ i = get_or-range_with_len 0 (length roots) i 0 inside ∙ zero_plus i in
    ap (λ k. ltb (heap_words image) (get_or roots k 0)) at ∙ le-ltb (heap_words image) (get_or roots i 0) (rooted.inside i 0 inside))
  where
    zero_plus : (k : ℕ) → 0 + k ≡ k
    zero_plus k = omega arith

pub misplaced_root-None : (image : HeapImage) → IsValid image → misplaced_root image ≡ None
misplaced_root-None image valid = placed_roots image valid image.roots refl

pub first_fault-text : (image : HeapImage) → IsValid image → first_fault (text image) ≡ None
first_fault-text image valid =
    let none = append-nil (text image) in
    let same : length (text image) ≡ length (text image ++ []) = ap length (sym none) in
    ap first_fault (sym none)
    ∙ first_fault-append image.version (with_tail image) (valid_numbers image valid) []
    ∙ ap (λ i. first_some (live_list_faults i ++ (fault_if (ltb (length (text image)) (length (text image ++ []))) Trailing ∷ []))) (from_tail-with_tail image valid)
    ∙ first_some_past (live_list_faults image) (fault_if (ltb (length (text image)) (length (text image ++ []))) Trailing ∷ []) (live_list_faults-None image valid.live_list (misplaced_root-None image valid))
    ∙ first_some-None (fault_if (ltb (length (text image)) (length (text image ++ []))) Trailing ∷ []) (fault_if-None (ltb (length (text image)) (length (text image ++ []))) Trailing (le-ltb (length (text image)) (length (text image ++ [])) (omega arith)), tt)
