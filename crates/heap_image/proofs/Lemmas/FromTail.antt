-- An image of the numbers after the words of a text.
use Rattle.std.proofs.Common.{◌≡◌, ◌^◌, ◌<◌, ℕ, ◌+◌, ◌≤◌, true, List, length, get_or, refl, sym, ◌∙◌, ap, subst, arith, ltb, Some, None}
use Rattle.std.proofs.lemmas.Bool.{ltb-false, true≢false}
use Rattle.std.proofs.lemmas.List.Elements.{All-from_get_or}
use Rattle.std.proofs.lemmas.List.FromFn.{get_or-range_with_len, length-range_with_len}
use Rattle.std.specs.Prelude.{All, IfSome, find}
use Rattle.std.specs.Option.{is_some}
use Rattle.std.specs.List.{range_with_len}
use Rattle.heap_image.specs.Reading.{HasFittingNumbers}
use Rattle.image_streams.specs.declared.fault.Fault.TheVariants.{Root}
use Rattle.object_heap.specs.HeapImage.{HeapImage, IsValid, AreRoots, heap_words, with_live, reachable, roots_or}
use Rattle.heap_image.specs.ImageText.{text, listed_text, with_tail, from_tail, live_list_faults, first_some}
use Rattle.object_heap.specs.Header.{size_of, filler_header}
use Rattle.object_heap.specs.Layout.{Layout, Own, IsLayout}
use Rattle.object_heap.specs.ObjectFaults.{misplaced_root}
use Rattle.object_heap.specs.Version.{Allows, has_roots}
use Rattle.object_heap.specs.declared.version.Version.{Version}
use Rattle.object_heap.specs.declared.version.Version.TheVariants.{One, Two, Three}
use Rattle.heap_image.proofs.Lemmas.TextLaws.{reachable-words}
use Rattle.heap_image.proofs.Lemmas.Faultless.{AllNone}
use Rattle.heap_image.proofs.Lemmas.LiveListFaults.{AllNone-from_first_some, map_None, find_None-at, IsFaultlessList, sound_live_list}
use Rattle.heap_image.proofs.Lemmas.Reaches.{reachable-short}

-- its text has these numbers again
pub text-from_tail : (version : Version) (image : HeapImage) → image.roots ≡ None → image.version ≡ One → text (from_tail version image) ≡ listed_text version image
text-from_tail One image e v = ap (λ w. listed_text w (with_tail image)) v ∙ ap (λ o. listed_text One (record image { version = One; live = roots_or image.live o; roots = None })) e
text-from_tail Two image e v = refl
text-from_tail Three image e v = refl

inside_of : (words : ℕ) (roots : List ℕ) → find (λ i. ltb words (get_or roots i 0)) (range_with_len 0 (length roots)) ≡ None → All (λ w. w ≤ words) roots
inside_of words roots none = All-from_get_or (λ w. w ≤ words) roots 0 (λ i l.
    let n = length-range_with_len 0 (length roots) in
    let at : get_or (range_with_len 0 (length roots)) i 0 ≡ i = get_or-range_with_len 0 (length roots) i 0 l ∙ zero_plus i in
    ltb-false words (get_or roots i 0) (ap (λ k. ltb words (get_or roots k 0)) (sym at) ∙ find_None-at (λ k. ltb words (get_or roots k 0)) (range_with_len 0 (length roots)) 0 none i (omega arith)))
  where
    zero_plus : (k : ℕ) → 0 + k ≡ k
    zero_plus k = omega arith

own_size : (n : ℕ) → n ≤ 2147483648 → size_of (filler_header n) ≡ n
own_size n few = omega arith

own_is : (words : ℕ) → words < 2 ^ 64 → IsLayout Own words
own_is words few = record {
  leads = λ w r _ _ _. refl;
  stays = λ w. refl;
  fits = λ w r _ within. omega arith;
  filler-size = λ n _ _ l. own_size n l;
}

own_lawful : (layout : Layout) (words : ℕ) → layout ≡ Own → words < 2 ^ 64 → IsLayout layout words
own_lawful layout words own few = subst (λ y. IsLayout y words) (sym own) (own_is words few)

-- in a version with roots
module _ (version : Version) (some : has_roots version ≡ true) (image : HeapImage) (fits : HasFittingNumbers version image) where
  abbrev rooted : HeapImage
  rooted = record image { version = version; live = reachable image image.live; roots = Some image.live }

  rooted-IsValid : IsFaultlessList → first_some (live_list_faults rooted) ≡ None → IsValid rooted
  rooted-IsValid faultless none =
      let all : AllNone (live_list_faults rooted) = AllNone-from_first_some (live_list_faults rooted) none in
      record {
        own = fits.own;
        lawful = own_lawful image.layout (heap_words image) fits.own (let few = fits.limits.few_words in omega arith);
        limits = record {
          region_log_low = fits.limits.region_log_low;
          region_log_high = fits.limits.region_log_high;
          not_empty = fits.limits.not_empty;
          whole_regions = fits.limits.whole_regions;
          few_words = fits.limits.few_words;
          few_regions = fits.limits.few_regions;
          few_live = reachable-short image image.live;
        };
        allowed = record { region_log_high = fits.allowed.region_log_high; few_words = fits.allowed.few_words; few_regions = fits.allowed.few_regions };
        allowance_fits = fits.allowance;
        words_fit = fits.words;
        live_list = sound_live_list faultless rooted none;
        versioned = sym some;
        rooted = record {
          few = fits.limits.few_live;
          counted = fits.counted;
          inside = inside_of (heap_words image) image.live (map_None Root (misplaced_root rooted) all.0);
          reached = sym (reachable-words image version (reachable image image.live) (Some image.live) image.live);
        };
      }

-- with nothing wrong it is valid
pub from_tail-IsValid : IsFaultlessList → (version : Version) (image : HeapImage) → HasFittingNumbers version image → first_some (live_list_faults (from_tail version image)) ≡ None → IsValid (from_tail version image)
from_tail-IsValid faultless One image fits none = record {
  own = fits.own;
  lawful = own_lawful image.layout (heap_words image) fits.own (let few = fits.limits.few_words in omega arith);
  limits = fits.limits;
  allowed = subst (λ v. Allows v image.region_log (heap_words image)) (sym fits.listed) fits.allowed;
  allowance_fits = fits.allowance;
  words_fit = fits.words;
  live_list = sound_live_list faultless image none;
  versioned = ap is_some fits.plain ∙ sym (ap has_roots fits.listed);
  rooted = subst (λ o. IfSome o (AreRoots image)) (sym fits.plain) tt;
}
from_tail-IsValid faultless Two image fits none = rooted-IsValid Two refl image fits faultless none
from_tail-IsValid faultless Three image fits none = rooted-IsValid Three refl image fits faultless none

-- what is reached from the roots is the live list
pub rooted_live : (version : Version) (heap : HeapImage) (tail live : List ℕ) → has_roots version ≡ true → live ≡ reachable heap tail → live ≡ (from_tail version (with_live heap tail)).live
rooted_live One heap tail live e is = absurd (true≢false (sym e))
rooted_live Two heap tail live e is = is ∙ sym (reachable-words heap heap.version tail None tail)
rooted_live Three heap tail live e is = is ∙ sym (reachable-words heap heap.version tail None tail)

-- which version with roots it is plays no part in its faults
pub rooted_faults : (version : Version) (heap : HeapImage) → has_roots version ≡ true → live_list_faults (from_tail Two heap) ≡ live_list_faults (from_tail version heap)
rooted_faults One heap e = absurd (true≢false (sym e))
rooted_faults Two heap e = refl
rooted_faults Three heap e = refl
