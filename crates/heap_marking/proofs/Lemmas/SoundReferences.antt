-- The headers and references of live objects, which bits look up or which are known.
use Rattle.std.proofs.Common.{◌≡◌, ℕ, ◌+◌, ◌/◌, ◌<◌, ◌≤◌, Bool, true, not, ◌||◌, eqb, leb, ltb, List, length, get_or, sym, ap, ◌∙◌, arith, Option, Some, None}
use Rattle.std.specs.Prelude.{IfSome, MatchOption}
use Rattle.object_heap.specs.Bits.{has}
use Rattle.object_heap.specs.HeapImage.{HeapImage, heap_words, word_at, size_at, references_at, reference_at, with_live, is_null_or_live, is_unsound}
use Rattle.object_heap.specs.Header.{size_of, references_of, kind_of}
use Rattle.object_heap.specs.Layout.{Layout, Own, size_in, references_in, kind_in, reference_in}
use Rattle.object_heap.specs.ObjectFaults.{dangling}
use Rattle.heap_marking.specs.Soundness.{AreWellFormed, MarkReferences}
use denote.Ref.{Bor}

-- bits that mark references have room for each reference
pub marks_room : (heap : HeapImage) (live : List ℕ) (marked : Option (Bor (List ℕ))) → MatchOption marked (AreWellFormed (with_live heap live)) (λ bits. MarkReferences (with_live heap live) bits.now)
    → IfSome marked (λ bits. heap_words heap / 64 < length bits.now)
marks_room heap live (Some bits) known = known.room
marks_room heap live None known = tt

-- references that are marked, or are those of well-formed objects, are null or lead to live objects
pub references_sound : ((image : HeapImage) → dangling image ≡ None → (i : ℕ) → i < length image.live → (f : ℕ) → f < references_at image (get_or image.live i 0) → is_null_or_live image (reference_at image (get_or image.live i 0) f) ≡ true)
    → (heap : HeapImage) → heap.layout ≡ Own → (live : List ℕ) (marked : Option (Bor (List ℕ))) (i to : ℕ) → i < length live
    → MatchOption marked (AreWellFormed (with_live heap live)) (λ bits. MarkReferences (with_live heap live) bits.now)
    → to ≡ get_or live i 0 + 1 + references_at heap (get_or live i 0)
    → IfSome marked (λ bits. (p : ℕ) → get_or live i 0 + 1 ≤ p → p < to → (word_at heap p ≤ heap_words heap) × (has bits.now (word_at heap p) ≡ true))
    → (f : ℕ) → f < references_at heap (get_or live i 0) → is_null_or_live (with_live heap live) (reference_at heap (get_or live i 0) f) ≡ true
references_sound lead heap own live (Some bits) i to l known e looked f m =
    let p : ℕ = get_or live i 0 + 1 + f in
    let found = looked p (omega arith) (omega (arith, e, m)) in
    ap (λ (y : Layout). is_null_or_live (with_live heap live) (reference_in y (word_at heap p))) own
    ∙ sym (known.marked (word_at heap p) found.0)
    ∙ found.1
references_sound lead heap own live None i to l known e looked f m = lead (with_live heap live) known.references i l f m

-- whether a header is unsound, by the word at its address
pub unsound_tested : (heap : HeapImage) → heap.layout ≡ Own → (live : List ℕ) (words i word : ℕ) → words ≡ heap_words heap → word ≡ get_or heap.words (get_or live i 0) 0 → (bad : Bool)
    → bad ≡ (not (eqb (kind_of word) 1) || eqb (size_of word) 0 || leb (size_of word) (references_of word) || ltb words (get_or live i 0 + size_of word)) → is_unsound (with_live heap live) (get_or live i 0) ≡ bad
unsound_tested heap own live words i word are is bad tested =
    ap (λ (y : Layout). not (eqb (kind_in y (get_or heap.words (get_or live i 0) 0)) 1) || eqb (size_in y (get_or heap.words (get_or live i 0) 0)) 0 || leb (size_in y (get_or heap.words (get_or live i 0) 0)) (references_in y (get_or heap.words (get_or live i 0) 0)) || ltb (heap_words heap) (get_or live i 0 + size_in y (get_or heap.words (get_or live i 0) 0))) own
    ∙ ap (λ w. not (eqb (kind_of w) 1) || eqb (size_of w) 0 || leb (size_of w) (references_of w) || ltb (heap_words heap) (get_or live i 0 + size_of w)) (sym is)
    ∙ ap (λ n. not (eqb (kind_of word) 1) || eqb (size_of word) 0 || leb (size_of word) (references_of word) || ltb n (get_or live i 0 + size_of word)) (sym are)
    ∙ sym tested

-- the size and the number of references, by the header
pub size_is : (heap : HeapImage) → heap.layout ≡ Own → (a word : ℕ) → word ≡ get_or heap.words a 0 → size_of word ≡ size_at heap a
size_is heap own a word is = ap size_of is ∙ sym (ap (λ (y : Layout). size_in y (get_or heap.words a 0)) own)

pub references_are : (heap : HeapImage) → heap.layout ≡ Own → (a word : ℕ) → word ≡ get_or heap.words a 0 → references_of word ≡ references_at heap a
references_are heap own a word is = ap references_of is ∙ sym (ap (λ (y : Layout). references_in y (get_or heap.words a 0)) own)
