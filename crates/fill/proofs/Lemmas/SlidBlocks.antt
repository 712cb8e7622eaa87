-- The laws of opaque objects' words once they have slid.
use Rattle.std.proofs.Common.{◌≡◌, ℕ, ◌+◌, ◌%◌, ◌≤◌, ◌<◌, inl, inr, List, length, get_or, refl, sym, ◌∙◌, ap, arith}
use Rattle.std.proofs.lemmas.Bool.{cases_lt, ltb-false, le-ltb}
use Rattle.std.proofs.lemmas.List.FromFn.{get_or-map-range_with_len, length-map-range_with_len}
use Rattle.std.proofs.lemmas.Nat.{div_below}
use Rattle.std.specs.Prelude.{Some, None, Option}
use Rattle.object_heap.specs.HeapImage.{HeapImage, IsValid, heap_words, region_words, region_count, region_of, start_of}
use Rattle.summary.specs.NewAddresses.{new_top}
use Rattle.summary.specs.WordMoves.{origin}
use Rattle.summary.specs.RegionData.{fill_count}
use Rattle.summary.specs.PlanLaws.{PlanLaws}
use Rattle.fill.specs.SlidWords.{AreWhole, held_word, slid_word, slid_block}
use Rattle.fill.proofs.Lemmas.Regions.{region_some}
use Rattle.fill.proofs.Lemmas.Slides.{slid_word-above, slid_word-below}
use Rattle.fill.proofs.Lemmas.WrittenTo.{all_regions, region_fits, shows_block}
use Rattle.fill.proofs.Lemmas.Held.{shows_held}

-- where no word goes, the word stays
pub slid_word-nowhere : (image : HeapImage) (held : ℕ → List ℕ) (p : ℕ) → origin image p ≡ None → slid_word image held p ≡ held_word image held p
slid_word-nowhere image held p none = elim (cases_lt p (new_top image)) [
  | inl below ↦ slid_word-below image held p None below none
  | inr above ↦ slid_word-above image held p above
]

pub length-slid_block : (image : HeapImage) (held : ℕ → List ℕ) (r : ℕ) → length (slid_block image held r) ≡ region_words image
length-slid_block image held r = length-map-range_with_len (slid_word image held) (start_of image r) (region_words image)

-- a region that isn't to be filled stays
pub slid_block-above : PlanLaws → (image : HeapImage) → IsValid image → (held : ℕ → List ℕ) → AreWhole image held → (r : ℕ) → fill_count image ≤ r → r < region_count image → slid_block image held r ≡ held r
slid_block-above law image valid held whole r high inside =
    let top : new_top image ≤ start_of image r = ltb-false (start_of image r) (new_top image) (law.to_fill-count image r ∙ le-ltb r (fill_count image) high) in
    let long = whole r inside in
    sym (shows_block image valid (slid_word image held) r (held r) long (λ k l. shows_held image held r long k l ∙ sym (slid_word-above image held (start_of image r + k) (omega arith))))

-- regions with the same words get the same words
module _ (law : PlanLaws) (image : HeapImage) (valid : IsValid image) (f g : ℕ → List ℕ) (same : (r : ℕ) → r < region_count image → f r ≡ g r) where
  held_word-same : (q : ℕ) → q < heap_words image → held_word image f q ≡ held_word image g q
  held_word-same q l =
      let all = all_regions image valid in
      let inside : region_of image q < region_count image = div_below q (region_words image) (region_count image) (region_some image) (omega arith) in
      ap (λ xs. get_or xs (q % region_words image) 0) (same (region_of image q) inside)

  slid_word-same : (p : ℕ) → p < heap_words image → slid_word image f p ≡ slid_word image g p
  slid_word-same p l = elim (cases_lt p (new_top image)) [
    | inl below ↦ each (origin image p) refl below
    | inr above ↦ slid_word-above image f p above ∙ held_word-same p l ∙ sym (slid_word-above image g p above)
  ]
    where
      each : (o : Option ℕ) → origin image p ≡ o → p < new_top image → slid_word image f p ≡ slid_word image g p
      each None e below = slid_word-below image f p None below e ∙ held_word-same p l ∙ sym (slid_word-below image g p None below e)
      each (Some q) e below =
          let live = (law.origin-Some image valid.live_list p q e).0 in
          slid_word-below image f p (Some q) below e
          ∙ held_word-same q (law.live_below image valid.live_list q live)
          ∙ sym (slid_word-below image g p (Some q) below e)

  pub slid_block-same : (r : ℕ) → r < region_count image → slid_block image f r ≡ slid_block image g r
  slid_block-same r inside =
      let fits = region_fits image valid r inside in
      let long = length-slid_block image f r in
      shows_block image valid (slid_word image g) r (slid_block image f r) long (λ k l.
      get_or-map-range_with_len (slid_word image f) (start_of image r) (region_words image) k (start_of image r + k) 0 (omega arith) refl
      ∙ slid_word-same (start_of image r + k) (omega arith))
