-- The objects of a live list, one after the other.
use Rattle.std.proofs.Common.{◌≡◌, ℕ, ◌+◌, ◌<◌, Bool, true, false, ◌||◌, not, eqb, leb, ltb, List, [], ◌∷◌, length, get_or, take, refl, sym, ◌∙◌, ap, Option, Some, None}
use Rattle.std.proofs.lemmas.List.{take_more}
use Rattle.std.specs.Prelude.{find, option_map}
use Rattle.std.specs.Bool.{then_some}
use Rattle.std.specs.Option.{option_or}
use Rattle.object_heap.specs.Header.{size_of, references_of, kind_of}
use Rattle.object_heap.specs.Layout.{Layout, Own, size_in, references_in, kind_in}
use Rattle.object_heap.specs.HeapImage.{HeapImage, heap_words, with_live, size_at, is_unsound}
use Rattle.object_heap.specs.ObjectFaults.{unsound_header, overlapping, dangling}
use Rattle.heap_image.specs.ImageText.{first_some}
use Rattle.image_streams.specs.declared.fault.Fault.TheVariants.{Header, Overlap, Reference}
use Rattle.heap_image.proofs.Lemmas.Finds.{find_first}
use Rattle.heap_image.proofs.Lemmas.Overlaps.{last_end_of, overlap_of, one_if, overlap_more, last_end_more}

module _ (heap : HeapImage) (live : List ℕ) (words i : ℕ) (inside : i < length live) (are : words ≡ heap_words heap) where
  abbrev image : HeapImage
  image = with_live heap live

  abbrev a : ℕ
  a = get_or live i 0

  -- the end of the object, by its size
  pub end_at : (size : ℕ) → size ≡ size_at image a → a + size ≡ last_end_of (size_at image) (take (i + 1) live)
  end_at size e = ap (λ n. a + n) e ∙ sym (last_end_more (size_at image) (take i live) a) ∙ ap (last_end_of (size_at image)) (sym (take_more live i 0 inside))

  module _ (word : ℕ) (own : heap.layout ≡ Own) (is : word ≡ get_or heap.words a 0) where
    pub unsound_tested : (bad : Bool) → bad ≡ (not (eqb (kind_of word) 1) || eqb (size_of word) 0 || leb (size_of word) (references_of word) || ltb words (a + size_of word)) → is_unsound image a ≡ bad
    unsound_tested bad tested =
        ap (λ (y : Layout). not (eqb (kind_in y (get_or heap.words a 0)) 1) || eqb (size_in y (get_or heap.words a 0)) 0 || leb (size_in y (get_or heap.words a 0)) (references_in y (get_or heap.words a 0)) || ltb (heap_words heap) (a + size_in y (get_or heap.words a 0))) own
        ∙ ap (λ w. not (eqb (kind_of w) 1) || eqb (size_of w) 0 || leb (size_of w) (references_of w) || ltb (heap_words heap) (a + size_of w)) (sym is)
        ∙ ap (λ n. not (eqb (kind_of word) 1) || eqb (size_of word) 0 || leb (size_of word) (references_of word) || ltb n (a + size_of word)) (sym are)
        ∙ sym tested

    pub end_more : (size : ℕ) → size ≡ size_of word → a + size ≡ last_end_of (size_at image) (take (i + 1) live)
    end_more size e = end_at size (e ∙ ap size_of is ∙ sym (ap (λ (y : Layout). size_in y (get_or heap.words a 0)) own))

  pub overlaps_more : (end : ℕ) (old new one : Option ℕ) → end ≡ last_end_of (size_at image) (take i live) → old ≡ overlap_of (size_at image) (take i live) → one ≡ then_some (ltb a end) a → new ≡ option_or old one → new ≡ overlap_of (size_at image) (take (i + 1) live)
  overlaps_more end old new one e o t n =
      n ∙ ap (λ x. option_or x one) o ∙ ap (option_or (overlap_of (size_at image) (take i live))) (t ∙ ap (λ x. then_some (ltb a x) a) e ∙ chosen (ltb a (last_end_of (size_at image) (take i live))))
      ∙ sym (overlap_more (size_at image) (take i live) a) ∙ ap (overlap_of (size_at image)) (sym (take_more live i 0 inside))
    where
      chosen : (b : Bool) → then_some b a ≡ one_if b a
      chosen true = refl
      chosen false = refl

  -- the first unsound header decides
  pub header_first : find (is_unsound image) (take i live) ≡ None → is_unsound image a ≡ true → first_some (option_map Header (unsound_header image) ∷ option_map Overlap (overlapping image) ∷ option_map (λ (p : ℕ × ℕ). Reference p.0 p.1) (dangling image) ∷ []) ≡ Some (Header a)
  header_first none bad = ap (λ o. first_some (option_map Header o ∷ option_map Overlap (overlapping image) ∷ option_map (λ (p : ℕ × ℕ). Reference p.0 p.1) (dangling image) ∷ [])) (find_first (is_unsound image) live i 0 inside none bad)
