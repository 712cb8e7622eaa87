-- The words of a compaction, and the numbers after them, which are as many as before.
use Rattle.std.proofs.Common.{◌≡◌, ℕ, ◌/◌, ◌^◌, List, length, sym, ◌∙◌, ap, refl, Option, Some, None, true, false}
use Rattle.std.proofs.lemmas.Bool.{true≢false}
use Rattle.std.proofs.lemmas.List.{length-map}
use Rattle.std.proofs.lemmas.List.FromFn.{length-map-range_with_len}
use Rattle.std.specs.Prelude.{map, option_map}
use Rattle.std.specs.Option.{is_some}
use Rattle.object_heap.specs.HeapImage.{HeapImage, IsValid, heap_words, region_count, roots_or}
use Rattle.object_heap.specs.Version.{has_roots}
use Rattle.object_heap.specs.declared.version.Version.{Version}
use Rattle.object_heap.specs.declared.version.Version.TheVariants.{One, Two, Three}
use Rattle.heap_image.specs.ImageText.{with_tail}
use Rattle.summary.specs.NewAddresses.{new_address}
use Rattle.summary.specs.Compaction.{compact, compacted_word, redirected}
use Rattle.caller_heap.specs.Collected.{IsTailOf}

pub compact-words : (image : HeapImage) → heap_words (compact image) ≡ heap_words image
compact-words image = length-map-range_with_len (compacted_word image) 0 (heap_words image)

pub compact-regions : (image : HeapImage) → region_count (compact image) ≡ region_count image
compact-regions image = ap (λ n. n / 2 ^ image.region_log) (compact-words image)

as_many : (f g : ℕ → ℕ) (live : List ℕ) (roots : Option (List ℕ)) → length (roots_or (map f live) (option_map (map g) roots)) ≡ length (roots_or live roots)
as_many f g live None = length-map live f
as_many f g live (Some roots) = length-map roots g

pub compact-tail : (image : HeapImage) → length (with_tail (compact image)).live ≡ length (with_tail image).live
compact-tail image = as_many (new_address image) (redirected image) image.live image.roots

plain : (live : List ℕ) (move : List ℕ → List ℕ) (roots : Option (List ℕ)) → is_some roots ≡ false → roots_or live (option_map move roots) ≡ live
plain live move None e = refl
plain live move (Some roots) e = absurd (true≢false e)

rooted : (live : List ℕ) (move : List ℕ → List ℕ) (roots : Option (List ℕ)) → is_some roots ≡ true → option_map move roots ≡ Some (roots_or live (option_map move roots))
rooted live move None e = absurd (true≢false (sym e))
rooted live move (Some roots) e = refl

-- in version 1 they are the live addresses, otherwise the roots
pub compact-tail_is : (version : Version) (image : HeapImage) → IsValid image → image.version ≡ version → IsTailOf version (compact image) (with_tail (compact image)).live
compact-tail_is One image valid e = plain (compact image).live (map (redirected image)) image.roots (valid.versioned ∙ ap has_roots e)
compact-tail_is Two image valid e = rooted (compact image).live (map (redirected image)) image.roots (valid.versioned ∙ ap has_roots e)
compact-tail_is Three image valid e = rooted (compact image).live (map (redirected image)) image.roots (valid.versioned ∙ ap has_roots e)
