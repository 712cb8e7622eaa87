-- The image of opaque objects is valid.
use Rattle.std.proofs.Common.{◌≡◌, ℕ, ◌+◌, ◌-◌, ◌*◌, ◌/◌, ◌%◌, ◌^◌, ◌≤◌, ◌<◌, List, [], length, get_or, map, inl, inr, Bool, true, false, ◌||◌, ◌∷◌, eqb, ltb, refl, sym, ◌∙◌, ap, subst, arith}
use Rattle.std.specs.Prelude.{None, IsTrue}
use Rattle.std.specs.Option.{is_some}
use Rattle.std.proofs.lemmas.Bool.{true≢false, or_parts, eqb-false, ltb-false, cases_lt}
use Rattle.std.proofs.lemmas.Grind.{get_or_default_zero}
use Rattle.std.specs.Int.{div_ceil}
use Rattle.std.proofs.lemmas.Grind.{div_ceil_times}
use Rattle.std.proofs.lemmas.Nat.{pow-add, pow_pos, div_below, div-mul-add, mod-mul-add}
use Rattle.std.proofs.lemmas.List.{length-map}
use Rattle.std.proofs.lemmas.List.Elements.{All-from_get_or, All-map}
use Rattle.std.proofs.lemmas.List.FromFn.{get_or-map-range_with_len}
use Rattle.object_heap.specs.Header.{size_of, references_of, kind_of}
use Rattle.object_heap.specs.Layout.{Own, IsLayout}
use Rattle.object_heap.specs.HeapImage.{HeapImage, IsValid, HasLiveList, HasSoundHeader, AreRoots, heap_words, word_at, size_at, reachable, references_at, reference_at, is_null_or_live}
use Rattle.mark_bitmap.specs.OpaqueObjects.{opaque_image, size_listed, header_if_any, settings_fault, AreApart}
use Rattle.image_streams.specs.declared.fault.Fault.{Fault}
use Rattle.heap_image.specs.ImageText.{fault_if, first_some}
use Rattle.mark_bitmap.proofs.Lemmas.Opaque.{words_long, regions_are, word_is}
use Rattle.mark_bitmap.proofs.Lemmas.OpaqueValid.{below, some_size, inside, ends_before, ascends, few, size_at_object, listed_fits, header_fits, kind_is, size_is, references_are}

none_of_two : (a b : Bool) (f g : Fault) → first_some (fault_if a f ∷ fault_if b g ∷ []) ≡ None → (a ≡ false) × (b ≡ false)
none_of_two true b f g e = absurd (true≢false (ap is_some e))
none_of_two false true f g e = absurd (true≢false (ap is_some e))
none_of_two false false f g e = (refl, refl)

-- what holds of numbers with which nothing is wrong
pub record AreNumbers (log words count : ℕ) : Type 0 where
  pub log_low : 3 ≤ log
  pub log_high : log ≤ 20
  pub some : 0 < words
  pub few : words ≤ 68719476736
  pub regions : div_ceil words (2 ^ log) ≤ 1048576
  pub objects : count < 4294967296

pub settings_none : (log words count : ℕ) → settings_fault log words count ≡ None → AreNumbers log words count
settings_none log words count e =
    let a : Bool = ltb log 3 || ltb 20 log in
    let two = ltb 68719476736 words in
    let three = ltb 1048576 (div_ceil words (2 ^ log)) in
    let four = ltb 4294967295 count in
    let parts = none_of_two a (eqb words 0 || (two || (three || four))) _ _ e in
    let logs = or_parts (ltb log 3) (ltb 20 log) parts.0 in
    let first = or_parts (eqb words 0) (two || (three || four)) parts.1 in
    let second = or_parts two (three || four) first.1 in
    let third = or_parts three four second.1 in
    let not_zero = eqb-false words 0 first.0 in
    record {
      log_low = ltb-false log 3 logs.0;
      log_high = ltb-false 20 log logs.1;
      some = elim (cases_lt 0 words) [
        | inl some ↦ some
        | inr zero_words ↦ absurd (not_zero (omega arith))
      ];
      few = ltb-false 68719476736 words second.0;
      regions = ltb-false 1048576 (div_ceil words (2 ^ log)) third.0;
      objects = let few = ltb-false 4294967295 count third.1 in omega arith;
    }

-- whole regions for up to 2 ^ 36 words have no more
whole_few : (words log : ℕ) → log ≤ 20 → words ≤ 68719476736 → div_ceil words (2 ^ log) * 2 ^ log ≤ 68719476736
whole_few words log small low =
    let R : ℕ = 2 ^ log in
    let K : ℕ = 2 ^ (36 - log) in
    let some : 0 < R = pow_pos log in
    let n : ℕ = div_ceil words R in
    let add : log + (36 - log) ≡ 36 = omega arith in
    let all : 68719476736 ≡ R * K = sym (sym (pow-add 2 log (36 - log)) ∙ ap (λ k. 2 ^ k) add) in
    let up : n * R < words + R = (div_ceil_times words R some).1 in
    let most : n * R < (K + 1) * R = omega (arith, up, all, low) in
    let back : n * R / R ≡ n = (let e : n * R ≡ n * R + 0 = omega arith in ap (λ m. m / R) e ∙ div-mul-add n R 0 some) in
    let count : n < K + 1 = subst (λ m. m < K + 1) back (div_below (n * R) R (K + 1) some most) in
    let more : K ≡ n + (K - n) = omega arith in
    let product : K * R ≡ (n + (K - n)) * R = ap (λ k. k * R) more in
    omega (arith, product, all)

module _ (log most words : ℕ) (live sizes : List ℕ)
    (log_low : 3 ≤ log) (log_high : log ≤ 20) (some_words : 0 < words) (few_words : words ≤ 68719476736) (few_regions : div_ceil words (2 ^ log) ≤ 1048576)
    (counted : length live < 4294967296) (allowance_fits : most < 18446744073709551616) (same : length sizes ≡ length live)
    (none : AreApart words live sizes) (small : (i : ℕ) → get_or sizes i 0 < 4294967296)
    (own_lawful : (n : ℕ) → n < 18446744073709551616 → IsLayout Own n)
    (reached : (i : HeapImage) → HasLiveList i → i.live ≡ reachable i (map (λ a. a + 1) i.live)) where
  abbrev regions : ℕ
  regions = div_ceil words (2 ^ log)

  abbrev image : HeapImage
  image = opaque_image log most regions live sizes

  region_some : 0 < 2 ^ log
  region_some = pow_pos log

  long : heap_words image ≡ regions * 2 ^ log
  long = words_long log most regions live sizes

  all_words : words ≤ heap_words image
  all_words = let up = (div_ceil_times words (2 ^ log) region_some).0 in omega (arith, long, up)

  no_more : heap_words image ≤ 68719476736
  no_more = omega (arith, long, whole_few words log log_high few_words)

  head : (i : ℕ) → i < length live → word_at image (get_or live i 0) ≡ header_if_any (get_or sizes i 0)
  head i l =
      let low : get_or live i 0 < regions * 2 ^ log = omega (arith, below words live sizes none i l, all_words, long) in
      word_is log most regions live sizes (get_or live i 0) low
      ∙ ap header_if_any (size_at_object live sizes (ascends words live sizes none) (omega (arith, same)) i l)

  pub size_here : (i : ℕ) → i < length live → size_at image (get_or live i 0) ≡ get_or sizes i 0
  size_here i l = ap size_of (head i l) ∙ size_is (get_or sizes i 0) (some_size words live sizes none i l) (small i)

  no_references : (i : ℕ) → i < length live → references_of (word_at image (get_or live i 0)) ≡ 0
  no_references i l = ap references_of (head i l) ∙ references_are (get_or sizes i 0) (some_size words live sizes none i l) (small i)

  sound : (i : ℕ) → i < length live → HasSoundHeader image (get_or live i 0)
  sound i l = record {
    object = ap kind_of (head i l) ∙ kind_is (get_or sizes i 0) (some_size words live sizes none i l) (small i);
    header = omega (arith, size_here i l, some_size words live sizes none i l);
    references = omega (arith, size_here i l, no_references i l, some_size words live sizes none i l);
    inside = omega (arith, size_here i l, inside words live sizes none i l, all_words);
  }

  pub listed : HasLiveList image
  listed = record {
    sound = All-from_get_or (HasSoundHeader image) live 0 sound;
    apart = λ k d l.
        let first : k < length live = omega arith in
        let here = get_or_default_zero live k d first in
        let there = get_or_default_zero live (k + 1) d l in
        let size : size_at image (get_or live k d) ≡ get_or sizes k 0 = ap (size_at image) here ∙ size_here k first in
        let before : get_or live k 0 + get_or sizes k 0 ≤ get_or live (k + 1) 0 = ends_before words live sizes none k l in
        omega arith;
    references = All-from_get_or (λ a. (f : ℕ) → f < references_at image a → IsTrue (is_null_or_live image (reference_at image a f))) live 0
        (λ i l f m. let no : ⊥ = omega (arith, no_references i l) in absurd no);
  }

  rooted : AreRoots image (map (λ a. a + 1) live)
  rooted = record {
    few = omega (arith, length-map live (λ a. a + 1), few words live sizes none, all_words);
    counted = omega (arith, length-map live (λ a. a + 1), counted);
    inside = All-map (λ w. w ≤ heap_words image) (λ a. a + 1) live (All-from_get_or (λ a. a + 1 ≤ heap_words image) live 0 (λ i l. omega (arith, below words live sizes none i l, all_words)));
    reached = reached image listed;
  }

  pub valid : IsValid image
  valid = record {
    own = refl;
    lawful = own_lawful (heap_words image) (omega (arith, no_more));
    limits = record {
      region_log_low = log_low;
      region_log_high = log_high;
      not_empty = omega (arith, all_words, some_words);
      whole_regions = ap (λ n. n % 2 ^ log) (long ∙ omega arith) ∙ mod-mul-add regions (2 ^ log) 0 region_some;
      few_words = no_more;
      few_regions = subst (λ n. n ≤ 1048576) (sym (regions_are log most regions live sizes region_some)) few_regions;
      few_live = omega (arith, few words live sizes none, all_words);
    };
    allowed = record {
      region_log_high = log_high;
      few_words = no_more;
      few_regions = subst (λ n. n ≤ 1048576) (sym (regions_are log most regions live sizes region_some)) few_regions;
    };
    allowance_fits = allowance_fits;
    words_fit = λ k d l.
        let inside : k < regions * 2 ^ log = omega (arith, long) in
        subst (λ w. w < 18446744073709551616) (sym (get_or-map-range_with_len (λ a. header_if_any (size_listed live sizes a)) 0 (regions * 2 ^ log) k k d inside (omega arith)))
        (header_fits (size_listed live sizes k) (listed_fits live sizes small k));
    live_list = listed;
    versioned = refl;
    rooted = rooted;
  }
