-- The fields of a carrier: origins, references and fillers.
use Rattle.std.proofs.Common.{◌≡◌, ℕ, ◌+◌, ◌-◌, ◌<◌, ◌≤◌, Bool, true, false, List, [], ◌∷◌, ◌++◌, length, get_or, take, min, ◌≢◌, Option, Some, None, Contains, refl, sym, ap, add-one, ◌∙◌, subst, inl, inr, arith}
use Rattle.std.specs.Prelude.{MatchOption, ◌&&◌, ◌||◌, not, nat_lt, nat_le, slice_index, slice_index_or}
use Rattle.std.specs.List.{list_any}
use Rattle.std.specs.Option.{unwrap_or}
use Rattle.summary.specs.Fillers.{filler_limit, gap_at}
use Rattle.std.proofs.Math.Seq.{take-suc, get_or-append_seam}
use Rattle.std.proofs.Math.ListN.{length-append}
use Rattle.std.proofs.lemmas.Bool.{cases_Bool, cases_lt, and_parts, ltb-true, leb-true, cond-true}
use Rattle.std.proofs.lemmas.List.{get_or_default, get_or_append_left}
use Rattle.std.proofs.lemmas.List.Folds.{Any-from_list_any, list_any-append}
use Rattle.object_heap.specs.HeapImage.{HeapImage, IsValid, heap_words, size_at, references_at, word_at, is_live_word, is_null_or_live}
use Rattle.object_heap.specs.Bits.{NoneFrom, IsFirstFrom}
use Rattle.summary.specs.NewAddresses.{prefix_end, new_address, new_top}
use Rattle.summary.specs.WordMoves.{origin, slid}
use Rattle.object_heap.specs.Layout.{reference_in}
use Rattle.summary.specs.Compaction.{is_reference_of, is_deferred, redirected_word, moved_word}
use Rattle.summary.specs.Updates.{is_late_reference}
use Rattle.summary.specs.PlanLaws.{PlanLaws}
use Rattle.history.specs.WordMachine.{is_redirected}
use Rattle.history.specs.Carrier.{AreOrigins, AreFlags, AreSet}

-- the origins of the places up to that of the first live word from an address on
pub record IsListed (image : HeapImage) (origins : List ℕ) (from : ℕ) : Type 0 where
  pub high : prefix_end image ≤ from
  pub inside : from ≤ heap_words image
  pub count : prefix_end image + length origins ≡ slid image from
  pub each : (k : ℕ) → k < length origins → origin image (prefix_end image + k) ≡ Some (slice_index origins k)

-- flags for the first objects
abbrev pub AreFlagsOf : HeapImage → (ℕ → ℕ → Bool) → ℕ → List Bool → Type 0
AreFlagsOf image test number flags = AreFlags image (λ q. list_any (λ a. test a q) (take number image.live)) flags

-- a reference of this deferred object goes there
abbrev pub late_test : HeapImage → ℕ → ℕ → Bool
late_test image a q = is_deferred image a && (nat_lt (new_address image a) q && nat_le q (new_address image a + references_at image a))

or_nothing : (b : Bool) → (b || false) ≡ b
or_nothing true = refl
or_nothing false = refl

module _ (image : HeapImage) (valid : IsValid image) where
  -- the references of a live object are sound
  pub reference_sound : (a q : ℕ) → Contains image.live a → is_reference_of image a q ≡ true → is_null_or_live image (reference_in image.layout (word_at image q)) ≡ true
  reference_sound a q object h =
      let at : get_or image.live object.0 0 ≡ a = get_or_default image.live object.0 0 a object.1 ∙ object.2 in
      let both = and_parts (nat_lt a q) (nat_le q (a + references_at image a)) h in
      let low = ltb-true a q both.0 in
      let high = leb-true q (a + references_at image a) both.1 in
      let f : ℕ = q - a - 1 in
      let few : f < references_at image a = omega arith in
      let is : a + 1 + f ≡ q = omega arith in
      let all : (g : ℕ) → g < references_at image a → is_null_or_live image (reference_in image.layout (word_at image (a + 1 + g))) ≡ true =
      subst (λ (n : ℕ). (g : ℕ) → g < references_at image n → is_null_or_live image (reference_in image.layout (word_at image (n + 1 + g))) ≡ true) at (valid.live_list.references object.0 0 object.1) in
      ap (λ (n : ℕ). is_null_or_live image (reference_in image.layout (word_at image n))) (sym is) ∙ all f few

  pub flags_first : (test : ℕ → ℕ → Bool) (flags : List Bool) → length flags ≡ heap_words image → ((q : ℕ) → q < heap_words image → slice_index_or flags q false ≡ false) → AreFlagsOf image test 0 flags
  flags_first test flags all none = record { all = all; each = none }

  one_more : (test : ℕ → ℕ → Bool) (number q : ℕ) → number < length image.live
      → list_any (λ a. test a q) (take (number + 1) image.live) ≡ (list_any (λ a. test a q) (take number image.live) || test (get_or image.live number 0) q)
  one_more test number q inside =
      let a : ℕ = get_or image.live number 0 in
      let more : take (number + 1) image.live ≡ take number image.live ++ a ∷ [] = rw add-one (take-suc image.live number 0 inside) in
      ap (list_any (λ b. test b q)) more ∙ (list_any-append (λ b. test b q) (take number image.live) (a ∷ []) ∙ ap (λ c. list_any (λ b. test b q) (take number image.live) || c) (or_nothing (test a q)))

  -- one object more, whose flags are set
  pub flags_set : (test : ℕ → ℕ → Bool) (number begin end : ℕ) (old new : List Bool) → number < length image.live → AreFlagsOf image test number old → AreSet old new begin end
      → ((q : ℕ) → (nat_lt begin q && nat_le q end) ≡ test (get_or image.live number 0) q) → AreFlagsOf image test (number + 1) new
  flags_set test number begin end old new inside flags set same =
      record {
        all = set.all ∙ flags.all;
        each = λ q l.
            set.each q (rw flags.all l)
            ∙ (ap (λ c. c || (nat_lt begin q && nat_le q end)) (flags.each q l)
            ∙ (ap (λ c. list_any (λ a. test a q) (take number image.live) || c) (same q) ∙ sym (one_more test number q inside)));
      }

  -- one that sets none
  pub flags_same : (test : ℕ → ℕ → Bool) (number : ℕ) (flags : List Bool) → number < length image.live → AreFlagsOf image test number flags
      → ((q : ℕ) → test (get_or image.live number 0) q ≡ false) → AreFlagsOf image test (number + 1) flags
  flags_same test number flags inside are none =
      record {
        all = are.all;
        each = λ q l. are.each q l ∙ (sym (or_nothing (list_any (λ a. test a q) (take number image.live)))
            ∙ (ap (λ c. list_any (λ a. test a q) (take number image.live) || c) (sym (none q)) ∙ sym (one_more test number q inside)));
      }

  -- a word that is redirected as it is moved is a sound reference
  pub redirected_sound : (q : ℕ) → is_redirected image q ≡ true → is_null_or_live image (reference_in image.layout (word_at image q)) ≡ true
  redirected_sound q h =
      let at = Any-from_list_any (λ a. is_reference_of image a q && not (is_deferred image a)) image.live h in
      let object : Contains image.live at.1 = (at.0, at.2, get_or_default image.live at.0 at.1 at.1 at.2 ∙ at.3) in
      reference_sound at.1 q object (and_parts (is_reference_of image at.1 q) (not (is_deferred image at.1)) at.4).0

  pub contains_at : (i : ℕ) → i < length image.live → Contains image.live (get_or image.live i 0)
  contains_at i inside = (i, inside, get_or_default image.live i (get_or image.live i 0) 0 inside)

  -- one object more, whose references are redirected at the end, or not
  pub late_more : (number begin references : ℕ) (old new : List Bool) → number < length image.live → AreFlagsOf image (late_test image) number old → AreSet old new begin (begin + references)
      → begin ≡ new_address image (get_or image.live number 0) → references ≡ references_at image (get_or image.live number 0) → is_deferred image (get_or image.live number 0) ≡ true
      → AreFlagsOf image (late_test image) (number + 1) new
  late_more number begin references old new inside flags set place count late =
      flags_set (late_test image) number begin (begin + references) old new inside flags set
      (λ q. rw (place, count, late) refl)

  pub late_same : (number : ℕ) (flags : List Bool) → number < length image.live → AreFlagsOf image (late_test image) number flags → is_deferred image (get_or image.live number 0) ≡ false
      → AreFlagsOf image (late_test image) (number + 1) flags
  late_same number flags inside are early = flags_same (late_test image) number flags inside are (λ q. rw early refl)

module _ (law : PlanLaws) (image : HeapImage) (valid : IsValid image) where
  pub listed_first : IsListed image [] (prefix_end image)
  listed_first =
      let few = law.live_words-le image (prefix_end image) (prefix_end image) in
      let at = law.slid-high image (prefix_end image) (omega arith) in
      let top = law.top-le image valid.live_list in
      let low = law.new_top-live_words image valid.live_list in
      record { high = omega arith; inside = omega arith; count = omega arith; each = λ k l. absurd (omega arith) }

  pub listed_more : (origins : List ℕ) (from q : ℕ) → IsListed image origins from → IsFirstFrom (is_live_word image) from q → IsListed image (origins ++ q ∷ []) (q + 1)
  listed_more origins from q listed first =
      let behind = first.behind in
      let high = listed.high in
      let inside = law.live_below image valid.live_list q first.passes in
      let skip = law.slid-skip image from q listed.high first.behind first.least in
      let run = law.slid-run image q 1 (λ j l. subst (λ (a : ℕ). is_live_word image a ≡ true) (omega arith) first.passes) in
      let long : length (origins ++ q ∷ []) ≡ length origins + 1 = length-append origins (q ∷ []) in
      let count = listed.count in
      let place : prefix_end image + length origins ≡ slid image q = omega arith in
      record {
        high = omega arith;
        inside = omega arith;
        count = omega arith;
        each = λ k l. elim (cases_lt k (length origins)) [
          | inl before ↦ listed.each k before ∙ ap Some (sym (get_or_append_left origins (q ∷ []) 0 k before))
          | inr here ↦
              let last : k ≡ length origins = omega arith in
              ap (λ (n : ℕ). origin image (prefix_end image + n)) last ∙ (ap (origin image) place ∙ (law.origin-slid image valid.live_list q inside first.passes
              ∙ ap Some (sym (ap (λ (n : ℕ). get_or (origins ++ q ∷ []) n 0) last ∙ get_or-append_seam origins q [] 0))))
        ];
      }

  pub listed_all : (origins : List ℕ) (from : ℕ) → IsListed image origins from → NoneFrom (is_live_word image) from → AreOrigins image origins
  listed_all origins from listed none =
      let high = listed.high in
      let inside = listed.inside in
      let count = listed.count in
      let skip = law.slid-skip image from (heap_words image) listed.high listed.inside (λ x l m. none x l) in
      let end = law.slid-high image (heap_words image) (omega arith) in
      let top = law.new_top-live_words image valid.live_list in
      record { all = omega arith; each = listed.each }

  -- the new address of a live object is no higher than the old one, and its new words lie in the heap
  pub new_fits : (a : ℕ) → Contains image.live a → (new_address image a ≤ a) × (new_address image a + size_at image a ≤ heap_words image) × (0 < size_at image a) × (references_at image a < size_at image a) × (a + size_at image a ≤ heap_words image)
  new_fits a object =
      let at : get_or image.live object.0 0 ≡ a = get_or_default image.live object.0 0 a object.1 ∙ object.2 in
      let down = law.new-down image valid.live_list object.0 object.1 in
      let below = law.new-below image valid.live_list object.0 object.1 in
      let sound = valid.live_list.sound object.0 0 object.1 in
      let top = law.top-le image valid.live_list in
      let header : 0 < size_at image a = subst (λ (n : ℕ). 0 < size_at image n) at sound.header in
      let few : references_at image a < size_at image a = subst (λ (n : ℕ). references_at image n < size_at image n) at sound.references in
      let inside : a + size_at image a ≤ heap_words image = subst (λ (n : ℕ). n + size_at image n ≤ heap_words image) at sound.inside in
      let lower : new_address image a ≤ a = subst (λ (n : ℕ). new_address image n ≤ n) at down in
      let fits : new_address image a + size_at image a ≤ new_top image = subst (λ (n : ℕ). new_address image n + size_at image n ≤ new_top image) at below in
      (lower, omega arith, header, few, inside)

  -- and so is one that is redirected at the end
  pub late_sound : (p : ℕ) → is_late_reference image p ≡ true → is_null_or_live image (reference_in image.layout (moved_word image p)) ≡ true
  late_sound p h =
      let at = Any-from_list_any (λ a. is_deferred image a && (nat_lt (new_address image a) p && nat_le p (new_address image a + references_at image a))) image.live h in
      let a : ℕ = get_or image.live at.0 0 in
      let is : at.1 ≡ a = sym (get_or_default image.live at.0 0 at.1 at.2 ∙ at.3) in
      let late : (is_deferred image a && (nat_lt (new_address image a) p && nat_le p (new_address image a + references_at image a))) ≡ true =
      subst (λ (b : ℕ). (is_deferred image b && (nat_lt (new_address image b) p && nat_le p (new_address image b + references_at image b))) ≡ true) is at.4 in
      let both = and_parts (is_deferred image a) (nat_lt (new_address image a) p && nat_le p (new_address image a + references_at image a)) late in
      let ends = and_parts (nat_lt (new_address image a) p) (nat_le p (new_address image a + references_at image a)) both.1 in
      let low = ltb-true (new_address image a) p ends.0 in
      let high = leb-true p (new_address image a + references_at image a) ends.1 in
      let f : ℕ = p - new_address image a - 1 in
      let few : f < references_at image a = omega arith in
      let place : new_address image a + (1 + f) ≡ p = omega arith in
      let word : moved_word image p ≡ word_at image (a + 1 + f) =
      ap (moved_word image) (sym place) ∙ (law.moved-reference image valid.live_list at.0 f at.2 few
      ∙ (cond-true (is_deferred image a) (word_at image (a + (1 + f))) (redirected_word image (word_at image (a + (1 + f)))) both.0 ∙ ap (word_at image) (omega arith))) in
      ap (λ w. is_null_or_live image (reference_in image.layout w)) word ∙ valid.live_list.references at.0 0 at.2 f few

  -- the origin of an address: a live word's old address
  pub origin_inside : (p x : ℕ) → origin image p ≡ Some x → x < heap_words image
  origin_inside p x from = law.live_below image valid.live_list x (law.origin-Some image valid.live_list p x from).0

  -- a place to which no word goes is a dead one of the prefix
  pub nowhere : (p : ℕ) → p < new_top image → origin image p ≡ None → (p < prefix_end image) × (is_live_word image p ≡ false)
  nowhere p below none =
      let low = law.nowhere-in_prefix image valid.live_list p below none in (
        low,
        elim (cases_Bool (is_live_word image p)) [
          | inr dead ↦ dead
          | inl live ↦ absurd (let e : Some p ≡ None = sym (law.origin-live image valid.live_list p low live) ∙ none in cc)
        ],
      )

  to_limit : (place limit : ℕ) → limit ≡ filler_limit image place → place < limit → ((q : ℕ) → place ≤ q → q < limit → is_live_word image q ≡ false) → gap_at image place ≡ limit - place
  to_limit place limit is low dead =
      let whole : limit ≤ limit = omega arith in
      law.gap_at-run image place limit (omega arith) (subst (λ n. limit ≤ n) is whole) dead (λ l. let no : limit < limit = subst (λ n. limit < n) (sym is) l in absurd (omega arith))

  -- the word of a filler, by the first live word after it
  pub filler_end : (place limit : ℕ) (o : Option ℕ) → limit ≡ filler_limit image place → place < limit → is_live_word image place ≡ false → MatchOption o (NoneFrom (is_live_word image) place) (IsFirstFrom (is_live_word image) place)
      → gap_at image place ≡ min (unwrap_or o limit) limit - place
  filler_end place limit None is low dead none = to_limit place limit is low (λ q l m. none q l) ∙ omega arith
  filler_end place limit (Some q) is low dead first =
      let behind = first.behind in
      let apart : place ≢ q = λ e. (let e' : false ≡ true = sym dead ∙ (ap (is_live_word image) e ∙ first.passes) in cc) in
      elim (cases_lt q limit) [
        | inl below ↦
            let inside : q ≤ limit = omega arith in
            law.gap_at-run image place q (omega arith) (subst (λ n. q ≤ n) is inside) first.least (λ l. first.passes) ∙ omega arith
        | inr above ↦ to_limit place limit is low (λ r l m. first.least r l (omega arith)) ∙ omega arith
      ]
