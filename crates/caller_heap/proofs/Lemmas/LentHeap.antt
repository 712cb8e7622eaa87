-- The image of words that are lent.
use Rattle.std.proofs.Common.{◌≡◌, ℕ, ◌≤◌, ◌++◌, inl, inr, List, length, min, refl, sym, ◌∙◌, ap, arith}
use Rattle.std.proofs.lemmas.List.{drop_all, append-nil}
use Rattle.std.specs.Prelude.{All, map, drop}
use Rattle.std.specs.List.{concat}
use Rattle.object_heap.specs.HeapImage.{image_of}
use Rattle.heap_image.specs.Checks.{IsMemoryOr}
use Rattle.heap_image.specs.ImageText.{from_tail, first_fault, listed_text, with_tail, front}
use Rattle.image_streams.specs.Numbers.{numbers}
use Rattle.image_streams.specs.declared.fault.Fault.{Fault}
use Rattle.object_heap.specs.declared.version.Version.{Version}
use Rattle.object_heap.specs.declared.version.Version.TheVariants.{One, Two, Three}
use Rattle.caller_heap.specs.declared.settings.HeapSettings.{HeapSettings}
use Rattle.caller_heap.specs.HeapWords.{heap_bytes}
use Rattle.caller_heap.specs.Lent.{Lent, IsHeld, IsWhyLentKept, heap_in, content, held, words_in}
use Rattle.caller_heap.proofs.Lemmas.Lending.{held_told}

-- the version and the numbers after the words are those of the text
pub version_of_tail : (version : Version) (log allowance : ℕ) (blocks : List (List ℕ)) (tail : List ℕ) → (from_tail version (image_of log allowance blocks tail)).version ≡ version
version_of_tail One log allowance blocks tail = refl
version_of_tail Two log allowance blocks tail = refl
version_of_tail Three log allowance blocks tail = refl

pub tail_of : (version : Version) (log allowance : ℕ) (blocks : List (List ℕ)) (tail : List ℕ) → (with_tail (from_tail version (image_of log allowance blocks tail))).live ≡ tail
tail_of One log allowance blocks tail = refl
tail_of Two log allowance blocks tail = refl
tail_of Three log allowance blocks tail = refl

module _ (version : Version) (settings : HeapSettings) (words : List Lent) (tail : List ℕ) (blocks : List (List ℕ)) (numbers_after : List ℕ) (b : blocks ≡ map words_in words) (t : numbers_after ≡ tail) (few : length tail ≤ 4294967295) where
  -- the bytes of the heap are the text of the numbers
  pub bytes_are : heap_bytes version settings (heap_in words) tail ≡ listed_text version (image_of settings.region_log settings.allowance blocks numbers_after)
  bytes_are =
      let counted : min (length tail) 4294967295 ≡ length tail = omega arith in
      ap (λ n. front version settings.region_log n (length (heap_in words)) settings.allowance ++ (numbers (heap_in words) ++ numbers tail)) counted
      ∙ ap (λ xs. front version settings.region_log (length tail) (length (concat xs)) settings.allowance ++ (numbers (concat xs) ++ numbers tail)) (sym b)
      ∙ ap (λ xs. front version settings.region_log (length xs) (length (concat blocks)) settings.allowance ++ (numbers (concat blocks) ++ numbers xs)) (sym t)

-- where all are back, no other is left
pub all_told : (after middle : List Lent) (regions : List (List ℕ)) (n : ℕ) → length middle ≤ n → map content after ≡ map held regions ++ map content (drop n middle) → map content after ≡ map held regions
all_told after middle regions n all kept =
    kept ∙ ap (λ ws. map held regions ++ map content ws) (drop_all n middle all) ∙ append-nil (map held regions)

-- words whose blocks are back are as they were
pub all_held_again : (words after : List Lent) (blocks : List (List ℕ)) → blocks ≡ map words_in words → All IsHeld words → map content after ≡ map held blocks → map content after ≡ map content words
all_held_again words after blocks b h e = e ∙ ap (map held) b ∙ held_told words h

-- a fault of the image is why there is none
pub why_no_image : (log : ℕ) (words : List Lent) (bytes listed : List ℕ) (fault : Fault) → bytes ≡ listed → IsMemoryOr (first_fault listed) fault → IsWhyLentKept log words bytes fault
why_no_image log words bytes listed fault e (inl memory) = inl (inl memory)
why_no_image log words bytes listed fault e (inr first) = inl (inr (ap first_fault e ∙ first))
