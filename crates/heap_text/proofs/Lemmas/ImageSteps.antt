-- The bytes of the image of a parsed heap.
use Rattle.std.proofs.Common.{◌≡◌, ℕ, ◌^◌, ◌<◌, ◌⊎◌, inl, inr, Bool, List, [], ◌++◌, length, refl, sym, ap, ◌∙◌, subst, arith, append_assoc, Option, None, Some, is_some, Result, Ok, Err}
use Rattle.std.specs.Prelude.{if◌then◌else◌}
use Rattle.std.proofs.lemmas.List.Concat.{flat_map-append}
use Rattle.std.specs.Int.{w64, to_le_bytes}
use Rattle.object_heap.specs.Version.{has_roots}
use Rattle.object_heap.specs.declared.version.Version.{Version}
use Rattle.object_heap.specs.HeapImage.{HeapImage, IsValid, heap_words, roots_or}
use Rattle.heap_image.specs.ImageText.{front, text, with_tail}
use Rattle.image_streams.specs.Numbers.{numbers}
use Rattle.heap_image.specs.Reading.{HasFittingNumbers}
use Rattle.heap_text.specs.Parsing.{HasContents, AcceptsText}
use Rattle.heap_text.specs.Words.{tail_of, words_of}
use Rattle.image_streams.specs.declared.fault.Fault.{Fault}
use Rattle.image_streams.specs.declared.fault.Fault.TheVariants.{Memory as FaultMemory}
use Rattle.heap_text.specs.declared.error.TextError.{TextError}
use Rattle.heap_text.specs.declared.error.TextError.TheVariants.{Memory, Line}
use Rattle.heap_text.specs.declared.parsed_heap.ParsedHeap.{ParsedHeap}

-- an error of which one thing holds is that of memory, of which anything does
pub text_error : {T V : Type 0} (error : TextError) (P : T → Type 0) (Q : V → Type 0) → AcceptsText (Err error) P → AcceptsText (Err error) Q
text_error Memory P Q a = tt
text_error (Line line expected) P Q a = absurd a

pub text_accepted : {T : Type 0} (image : T) (result : Result T TextError) → AcceptsText result (λ found. found ≡ image) → (result ≡ Ok image) ⊎ (result ≡ Err Memory)
text_accepted image (Ok found) a = inl (ap Ok a)
text_accepted image (Err Memory) a = inr refl
text_accepted image (Err (Line line expected)) a = absurd a

pub image_only : (found image : HeapImage) (answer : Result HeapImage Fault) → answer ≡ Ok found → (answer ≡ Ok image) ⊎ (answer ≡ Err FaultMemory) → found ≡ image
image_only found image answer is (inl e) = cc
image_only found image answer is (inr e) = cc

pub fault_only : (image : HeapImage) (fault : Fault) (answer : Result HeapImage Fault) (error : TextError) → answer ≡ Err fault → (fault ≡ FaultMemory → error ≡ Memory)
    → (answer ≡ Ok image) ⊎ (answer ≡ Err FaultMemory) → AcceptsText {T = HeapImage} (Err error) (λ found. found ≡ image)
fault_only image fault answer error is memory (inl e) = let no : ◌≡◌ {A = Result HeapImage Fault} (Err fault) (Ok image) = sym is ∙ e in cc
fault_only image fault answer error is memory (inr e) =
    let same : fault ≡ FaultMemory = cc in
    subst (λ (x : TextError). AcceptsText {T = HeapImage} (Err x) (λ found. found ≡ image)) (sym (memory same)) tt

pub memory_only : {T : Type 0} (error : TextError) (P : T → Type 0) → AcceptsText (Err error) P → error ≡ Memory
memory_only Memory P a = refl
memory_only (Line line expected) P a = absurd a

pub tails_same : (b : Bool) (t r r' l l' : List ℕ) → t ≡ (if b then r else l) → r ≡ r' → l ≡ l' → t ≡ (if b then r' else l')
tails_same b t r r' l l' e p q = e ∙ (ap (λ (xs : List ℕ). if b then xs else l) p ∙ ap (λ (xs : List ℕ). if b then r' else xs) q)

module _ (image : HeapImage) (heap : ParsedHeap) (p : HasContents image heap) where
  tail_is : IsValid image → tail_of heap ≡ roots_or image.live image.roots
  tail_is valid = go (has_roots heap.version) image.roots heap.live.items heap.roots.items image.live (ap has_roots p.head.version ∙ sym valid.versioned) p.live p.roots
    where
      go : (rooted : Bool) (roots : Option (List ℕ)) (live' roots' live : List ℕ) → rooted ≡ is_some roots → live' ≡ live → roots' ≡ roots_or [] roots
          → (if rooted then roots' else live') ≡ roots_or live roots
      go rooted None live' roots' live e l r = ap (λ (b : Bool). if b then roots' else live') e ∙ l
      go rooted (Some roots) live' roots' live e l r = ap (λ (b : Bool). if b then roots' else live') e ∙ r

  pub tail_few : HasFittingNumbers image.version (with_tail image) → IsValid image → length (tail_of heap) < 2 ^ 32
  tail_few fitting valid =
      let most : length (roots_or image.live image.roots) < 2 ^ 32 = fitting.counted in
      omega (arith, ap (λ (xs : List ℕ). length xs) (tail_is valid), most)

  pub bytes_are : IsValid image → (bytes array tail : List ℕ) → array ≡ front heap.version heap.region_log (length (tail_of heap)) heap.words.len heap.allowance
      → tail ≡ tail_of heap → bytes ≡ array ++ numbers (words_of heap.words ++ tail) → bytes ≡ text image
  bytes_are valid bytes array tail front_is same is =
      let T : List ℕ = roots_or image.live image.roots in
      let tails : tail ≡ T = same ∙ tail_is valid in
      let F : List ℕ = front image.version image.region_log (length T) (heap_words image) image.allowance in
      let fronts : array ≡ F = front_is
      ∙ (ap (λ (v : Version). front v heap.region_log (length (tail_of heap)) heap.words.len heap.allowance) p.head.version
      ∙ (ap (λ (k : ℕ). front image.version k (length (tail_of heap)) heap.words.len heap.allowance) p.head.region_log
      ∙ (ap (λ (xs : List ℕ). front image.version image.region_log (length xs) heap.words.len heap.allowance) (tail_is valid)
      ∙ (ap (λ (k : ℕ). front image.version image.region_log (length T) k heap.allowance) p.len
      ∙ ap (λ (k : ℕ). front image.version image.region_log (length T) (heap_words image) k) p.head.allowance)))) in
      let body : numbers (words_of heap.words ++ tail) ≡ numbers image.words ++ numbers T =
      flat_map-append (to_le_bytes w64) (words_of heap.words) tail
      ∙ (ap (λ (xs : List ℕ). numbers xs ++ numbers tail) p.words ∙ ap (λ (xs : List ℕ). numbers image.words ++ numbers xs) tails) in
      is ∙ (ap (λ (t : List ℕ). t ++ numbers (words_of heap.words ++ tail)) fronts
      ∙ (ap (λ (t : List ℕ). F ++ t) body ∙ sym (append_assoc F (numbers image.words) (numbers T))))
