-- What decoding bytes in memory says of them.
use Rattle.std.proofs.Common.{◌≡◌, ℕ, ◌+◌, ◌*◌, ◌≤◌, ◌<◌, ◌⊎◌, inl, inr, false, ltb, List, [], ◌∷◌, ◌++◌, length, take, drop, sym, ◌∙◌, ap, arith, length-take, length-drop, Option, Some, None, Result, Ok, Err}
use Rattle.std.proofs.lemmas.Bool.{le-ltb, true≢false}
use Rattle.std.proofs.lemmas.List.{take-append-drop, append-nil}
use Rattle.std.specs.Prelude.{IfOk, IfErr}
use Rattle.image_streams.specs.declared.fault.Fault.{Fault}
use Rattle.image_streams.specs.declared.fault.Fault.TheVariants.{TruncatedBody, Memory}
use Rattle.image_streams.specs.Device.{is_io}
use Rattle.object_heap.specs.HeapImage.{HeapImage, IsValid}
use Rattle.object_heap.specs.declared.version.Version.{Version}
use Rattle.heap_image.specs.ImageText.{front, text, fault_if, first_some, first_fault, front_faults, layout_faults, encoded_length}
use Rattle.heap_image.specs.Decoding.{Decodes}
use Rattle.heap_image.specs.Reading.{IsRead}
use Rattle.heap_image.specs.Refusals.{IsReason, IsRefusal}
use Rattle.heap_image.proofs.Lemmas.Faultless.{first_some-append, first_some_past, first_some-None, fault_if-None, front_faults-None, layout_fault-truncated, first_fault-text}
use Rattle.heap_image.specs.Front.{FitsFront}
use Rattle.heap_image.proofs.Lemmas.Refusing.{front_faults-append}
use Rattle.heap_image.proofs.Lemmas.TextLaws.{text-injective, front_length}

pub front_fault_first : (bytes : List ℕ) → 32 ≤ length bytes → (fault : Fault) → first_some (front_faults (take 32 bytes)) ≡ Some fault → first_some (layout_faults bytes) ≡ Some fault
front_fault_first bytes long fault first =
    let t = length-take 32 bytes in
    ap (λ b. first_some (layout_faults b)) (sym (take-append-drop 32 bytes))
    ∙ first_some-append (front_faults (take 32 bytes ++ drop 32 bytes)) _ fault (ap first_some (front_faults-append (take 32 bytes) (drop 32 bytes) (omega arith)) ∙ first)

-- a fault of the layout comes before all others
pub layout_fault_first : (bytes : List ℕ) (fault : Fault) → first_some (layout_faults bytes) ≡ Some fault → first_fault bytes ≡ Some fault
layout_fault_first bytes fault first = first_some-append (layout_faults bytes) _ fault first

module _ (bytes : List ℕ) (version : Version) (log live_count words allowance : ℕ) (limits : FitsFront version log words live_count) (told : take 32 bytes ≡ front version log live_count words allowance) where
  whole : front version log live_count words allowance ++ drop 32 bytes ≡ bytes
  whole = ap (λ l. l ++ drop 32 bytes) (sym told) ∙ take-append-drop 32 bytes

  pub truncated_layout : 32 ≤ length bytes → length bytes < 32 + 8 * words + 8 * live_count → first_some (layout_faults bytes) ≡ Some TruncatedBody
  truncated_layout long short =
      let d = length-drop 32 bytes in
      ap (λ b. first_some (layout_faults b)) (sym whole) ∙ layout_fault-truncated version log live_count words allowance limits (drop 32 bytes) (omega arith)

  pub layout_none : 32 + 8 * words + 8 * live_count ≤ length bytes → first_some (layout_faults bytes) ≡ None
  layout_none enough =
      let said : List ℕ = front version log live_count words allowance ++ drop 32 bytes in
      let long = ap length whole in
      let tells = front_length version log live_count words allowance limits (drop 32 bytes) in
      ap (λ b. first_some (layout_faults b)) (sym whole)
      ∙ first_some_past (front_faults said) (fault_if (ltb (length said) (encoded_length said)) TruncatedBody ∷ []) (front_faults-None version log live_count words allowance limits (drop 32 bytes))
      ∙ first_some-None (fault_if (ltb (length said) (encoded_length said)) TruncatedBody ∷ []) (fault_if-None (ltb (length said) (encoded_length said)) TruncatedBody (le-ltb (length said) (encoded_length said) (omega arith)), tt)

-- a text of a valid image is not refused as such
pub no_refusal : (bytes : List ℕ) (image : HeapImage) (fault : Fault) → IsValid image → bytes ≡ text image → first_fault bytes ≡ Some fault → ⊥
no_refusal bytes image fault valid is first = let none : first_fault bytes ≡ None = ap first_fault is ∙ first_fault-text image valid in some_none (sym first ∙ none)
  where
    some_none : {A : Type 0} {x : A} → Some x ≡ None → ⊥
    some_none h = cc

-- so what has a fault of the layout is not its text
pub decoded_by_layout : (bytes : List ℕ) (fault : Fault) → first_some (layout_faults bytes) ≡ Some fault → (fault ≡ Memory → ⊥) → Decodes bytes (Err fault)
decoded_by_layout bytes fault first other = record {
  text = tt;
  only = λ image valid is. absurd (no_refusal bytes image fault valid is (layout_fault_first bytes fault first));
  fault = inr (layout_fault_first bytes fault first);
  memory = λ e. absurd (other e);
}

whole_text : (bytes : List ℕ) (image : HeapImage) (left : Option (List ℕ)) → IsRead image (Some bytes) left → bytes ≡ text image
whole_text bytes image None read = absurd read.text
whole_text bytes image (Some rest) read = read.text ∙ ap (λ l. text image ++ l) read.end ∙ append-nil (text image)

-- a device that works gives a fault of its bytes, or runs out of memory
first_or_memory : (bytes : List ℕ) (fault : Fault) → IsReason bytes fault → false ≡ is_io {A = HeapImage} (Err fault) → (fault ≡ Memory) ⊎ (first_fault bytes ≡ Some fault)
first_or_memory bytes fault (inl memory) io = inl memory
first_or_memory bytes fault (inr (inl device)) io = absurd (true≢false (sym (io ∙ ap (λ f. is_io {A = HeapImage} (Err f)) device)))
first_or_memory bytes fault (inr (inr first)) io = inr first

memory_only : (bytes : List ℕ) (fault : Fault) (image : HeapImage) → IsValid image → bytes ≡ text image → (fault ≡ Memory) ⊎ (first_fault bytes ≡ Some fault) → fault ≡ Memory
memory_only bytes fault image sound is (inl memory) = memory
memory_only bytes fault image sound is (inr first) = absurd (no_refusal bytes image fault sound is first)

pub decodes_only : (bytes : List ℕ) (answer : Result HeapImage Fault) (left : Option (List ℕ)) → IfOk answer (λ i. IsRead i (Some bytes) left) → IfErr answer (IsReason bytes) → false ≡ is_io answer
    → (image : HeapImage) → IsValid image → bytes ≡ text image → (answer ≡ Ok image) ⊎ (answer ≡ Err Memory)
decodes_only bytes (Ok found) left read why io image sound is =
    inl (ap Ok (text-injective found image read.valid sound (sym (whole_text bytes found left read) ∙ is)))
decodes_only bytes (Err fault) left read why io image sound is = inr (ap Err (memory_only bytes fault image sound is (first_or_memory bytes fault why io)))

pub decoded_by_reading : (bytes : List ℕ) (answer : Result HeapImage Fault) (left : Option (List ℕ)) → IfOk answer (λ i. IsRead i (Some bytes) left) → IfErr answer (IsRefusal (Some bytes) left) → false ≡ is_io answer
    → first_some (layout_faults bytes) ≡ None → Decodes bytes answer
decoded_by_reading bytes (Ok found) left read refused io none = record {
  text = (read.valid, whole_text bytes found left read);
  only = decodes_only bytes (Ok found) left read tt io;
  fault = tt;
  memory = tt;
}
decoded_by_reading bytes (Err fault) left read refused io none = record {
  text = tt;
  only = decodes_only bytes (Err fault) left tt refused.reason io;
  fault = first_or_memory bytes fault refused.reason io;
  memory = λ _. none;
}
