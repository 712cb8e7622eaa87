-- Which words are redirected, and where the objects end.
use Rattle.std.proofs.Common.{◌≡◌, ℕ, suc, ◌<◌, Bool, true, false, cond, ◌&&◌, ◌||◌, List, [], ◌∷◌, length, get_or, refl, sym, ◌∙◌, ap, arith, ltb}
use Rattle.std.proofs.lemmas.Bool.{cond-true, lt-ltb}
use Rattle.std.specs.Prelude.{filter, fold}
use Rattle.std.specs.List.{list_any}
use Rattle.object_heap.specs.HeapImage.{HeapImage, HasLiveList, heap_words}
use Rattle.summary.specs.NewAddresses.{next_after, next_at, prefix_end, new_top}
use Rattle.summary.specs.Compaction.{carried, redirected_word, is_reference_of}

filter_all : (p : ℕ → Bool) (xs : List ℕ) → ((i : ℕ) → i < length xs → p (get_or xs i 0) ≡ true) → filter p xs ≡ xs
filter_all p [] h = refl
filter_all p (x ∷ xs) h =
    cond-true (p x) (x ∷ filter p xs) (filter p xs) (h 0 (omega arith))
    ∙ ap (λ ys. x ∷ ys) (filter_all p xs (λ i l. h (suc i) (omega arith)))

list_any_and_true : (p : ℕ → Bool) (xs : List ℕ) → list_any p xs ≡ list_any (λ x. p x && true) xs
list_any_and_true p [] = refl
list_any_and_true p (x ∷ xs) = ap (λ b. b || list_any p xs) (sym (and_true (p x))) ∙ ap (λ b. (p x && true) || b) (list_any_and_true p xs)
  where
    and_true : (b : Bool) → (b && true) ≡ b
    and_true true = refl
    and_true false = refl

-- a word is redirected if it is a reference of a live object
pub carried-any : (image : HeapImage) (q : ℕ) → carried image (λ _. true) q ≡ cond (list_any (λ a. is_reference_of image a q) image.live) (redirected_word image (get_or image.words q 0)) (get_or image.words q 0)
carried-any image q = ap (λ b. cond b (redirected_word image (get_or image.words q 0)) (get_or image.words q 0)) (sym (list_any_and_true (λ a. is_reference_of image a q) image.live))

-- once all objects that begin in the heap are placed, all are
pub next_at-top : (image : HeapImage) → HasLiveList image → next_at image (heap_words image) ≡ new_top image
next_at-top image sound = ap (fold (next_after image) (prefix_end image)) (filter_all (λ b. ltb b (heap_words image)) image.live (λ i l.
    let some = (sound.sound i 0 l).header in
    let e = (sound.sound i 0 l).inside in
    lt-ltb (get_or image.live i 0) (heap_words image) (omega arith)))
