-- Why an input is refused, and what is left of it.
use Rattle.std.proofs.Common.{◌≡◌, ℕ, ◌+◌, ◌-◌, ◌*◌, ◌≤◌, ◌<◌, ◌%◌, ◌/◌, ◌^◌, inl, inr, Bool, true, false, not, ◌||◌, ltb, eqb, List, [], ◌∷◌, ◌++◌, length, take, drop, refl, sym, ◌∙◌, ap, subst, arith, length-append, length-drop, length-take, append_assoc, ◌⊎◌, Option, Some, None, Result, Ok, Err}
use Rattle.std.proofs.lemmas.Bool.{le-ltb, lt-ltb}
use Rattle.std.proofs.lemmas.List.{take-append-le, drop-append-le, drop_at}
use Rattle.std.specs.Prelude.{All, IfErr, IfSome, option_map, slice_range}
use Rattle.std.specs.Str.{bytes_eq}
use Rattle.std.specs.Int.{w32, w64, from_le_bytes}
use Rattle.std.specs.Io.KnownBytes.{Consumes, IsAtEnd}
use Rattle.heap_image.specs.Reading.{HasFittingNumbers}
use Rattle.image_streams.specs.declared.fault.Fault.{Fault}
use Rattle.image_streams.specs.declared.fault.Fault.TheVariants.{TruncatedHeader, Magic, RegionLog, Length, TruncatedBody, LiveOrder, Header, Overlap, Reference, Trailing, Memory, Io, Workers, Schedule, Overwritten, Gate, Root}
use Rattle.object_heap.specs.Version.{magic, Allows, max_region_log, max_regions, max_words}
use Rattle.heap_image.specs.ImageText.{version_of_magic, fault_if, first_some, first_fault, front_faults, front, listed_text, from_tail, encoded_length, live_list_faults}
use Rattle.object_heap.specs.ObjectFaults.{misplaced_root, misplaced_index, unsound_header, overlapping, dangling}
use Rattle.image_streams.specs.Numbers.{numbers}
use Rattle.object_heap.specs.HeapImage.{HeapImage, IsWithinLimits, heap_words, image_of, versioned_image_of, reachable}
use Rattle.object_heap.specs.declared.version.Version.{Version}
use Rattle.object_heap.specs.declared.version.Version.TheVariants.{One, Two, Three}
use Rattle.image_streams.specs.Device.{is_io}
use Rattle.heap_image.proofs.Lemmas.Known.{consumes_more}
use Rattle.std.specs.List.{concat}
use Rattle.heap_image.proofs.Lemmas.Faultless.{first_some-append, first_some_past, front_faults-None, first_fault-truncated, first_fault-append}
use Rattle.heap_image.proofs.Lemmas.TextLaws.{front_fits, length_told, length-numbers}
use Rattle.heap_image.specs.Front.{FitsFront}
use Rattle.heap_image.specs.Refusals.{IsReason, IsRefusal, IsOfReading, LeavesRest, IsOfFront, IsFaultOfFront}

-- ---- the front of a longer text

abbrev numbers_faults : Bool → List ℕ → List ℕ → List ℕ → List ℕ → List (Option Fault)
numbers_faults short first log count words =
    fault_if short TruncatedHeader
    ∷ fault_if (not (bytes_eq first (magic (version_of_magic first)))) Magic
    ∷ fault_if (ltb (from_le_bytes w32 log) 3 || ltb (max_region_log (version_of_magic first)) (from_le_bytes w32 log)) RegionLog
    ∷ fault_if (eqb (from_le_bytes w64 words) 0 || not (eqb (from_le_bytes w64 words % 2 ^ from_le_bytes w32 log) 0) || ltb (max_words (version_of_magic first)) (from_le_bytes w64 words) || ltb (max_regions (version_of_magic first)) (from_le_bytes w64 words / 2 ^ from_le_bytes w32 log) || ltb (from_le_bytes w64 words) (from_le_bytes w32 count)) Length
    ∷ []

module _ (bytes rest : List ℕ) (long : length bytes ≡ 32) where
  part : (low high : ℕ) → low ≤ high → high ≤ 32 → slice_range (bytes ++ rest) low high ≡ slice_range bytes low high
  part low high l h =
      let d = length-drop low bytes in
      ap (take (high - low)) (drop-append-le low bytes rest (omega arith)) ∙ take-append-le (high - low) (drop low bytes) rest (omega arith)

  pub front_faults-append : front_faults (bytes ++ rest) ≡ front_faults bytes
  front_faults-append =
      let whole : List ℕ = bytes ++ rest in
      let both = length-append bytes rest in
      let short : ltb (length whole) 32 ≡ ltb (length bytes) 32 = le-ltb (length whole) 32 (omega arith) ∙ sym (le-ltb (length bytes) 32 (omega arith)) in
      ap (λ s. numbers_faults s (take 8 whole) (slice_range whole 8 12) (slice_range whole 12 16) (slice_range whole 16 24)) short
      ∙ ap (λ m. numbers_faults (ltb (length bytes) 32) m (slice_range whole 8 12) (slice_range whole 12 16) (slice_range whole 16 24)) (take-append-le 8 bytes rest (omega arith))
      ∙ ap (λ m. numbers_faults (ltb (length bytes) 32) (take 8 bytes) m (slice_range whole 12 16) (slice_range whole 16 24)) (part 8 12 (omega arith) (omega arith))
      ∙ ap (λ m. numbers_faults (ltb (length bytes) 32) (take 8 bytes) (slice_range bytes 8 12) m (slice_range whole 16 24)) (part 12 16 (omega arith) (omega arith))
      ∙ ap (λ m. numbers_faults (ltb (length bytes) 32) (take 8 bytes) (slice_range bytes 8 12) (slice_range bytes 12 16) m) (part 16 24 (omega arith) (omega arith))

-- ---- what is left

pub exact_rest : (before after : Option (List ℕ)) (came : List ℕ) (n : ℕ) → length came ≡ n → Consumes before after came → IfSome before (λ input. after ≡ Some (drop n input))
exact_rest None after came n l h = tt
exact_rest (Some input) None came n l h = absurd h
exact_rest (Some input) (Some rest) came n l h = ap Some (sym (drop_at came rest n l) ∙ ap (drop n) (sym h))

pub some_rest : (before after : Option (List ℕ)) (came : List ℕ) → Consumes before after came → IfSome before (λ input. (n : ℕ) × (after ≡ Some (drop n input)))
some_rest None after came h = tt
some_rest (Some input) after came h = (length came, exact_rest (Some input) after came (length came) refl h)

-- ---- a fault of the front

pub reason_in_front : {A : Type 0} (bytes : List ℕ) → length bytes ≡ 32 → (before after : Option (List ℕ)) → Consumes before after bytes → (answer : Result A Fault) → IfErr answer (λ fault. first_some (front_faults bytes) ≡ Some fault) → IfErr answer (λ fault. IfSome before (λ input. IsReason input fault))
reason_in_front bytes long before after h (Ok x) why = tt
reason_in_front bytes long None after h (Err fault) why = tt
reason_in_front bytes long (Some input) None h (Err fault) why = absurd h
reason_in_front bytes long (Some input) (Some rest) h (Err fault) why =
    inr (inr (ap first_fault h ∙ first_some-append (front_faults (bytes ++ rest)) _ fault (ap first_some (front_faults-append bytes rest long) ∙ why)))

leaves_front : (fault : Fault) (input : List ℕ) (left : Option (List ℕ)) → IsOfFront fault → left ≡ Some (drop 32 input) → LeavesRest fault input left
leaves_front Magic input left f h = h
leaves_front RegionLog input left f h = h
leaves_front Length input left f h = h
leaves_front TruncatedHeader input left f h = absurd f
leaves_front TruncatedBody input left f h = absurd f
leaves_front (LiveOrder _) input left f h = absurd f
leaves_front (Header _) input left f h = absurd f
leaves_front (Overlap _) input left f h = absurd f
leaves_front (Reference _ _) input left f h = absurd f
leaves_front Trailing input left f h = absurd f
leaves_front Memory input left f h = absurd f
leaves_front Workers input left f h = absurd f
leaves_front Io input left f h = absurd f
leaves_front (Schedule _) input left f h = absurd f
leaves_front (Overwritten _) input left f h = absurd f
leaves_front Gate input left f h = absurd f
leaves_front (Root _) input left f h = absurd f

pub front_leaves : {A : Type 0} (bytes : List ℕ) → length bytes ≡ 32 → (before after : Option (List ℕ)) → Consumes before after bytes → (answer : Result A Fault) → IfErr answer IsOfFront → IfErr answer (λ fault. IfSome before (λ input. LeavesRest fault input after))
front_leaves bytes long before after h (Ok x) of = tt
front_leaves bytes long None after h (Err fault) of = tt
front_leaves bytes long (Some input) after h (Err fault) of = leaves_front fault input after of (exact_rest (Some input) after bytes 32 long h)

-- ---- too few bytes after a front

pub truncated_reason : (version : Version) (log live_count words allowance : ℕ) (limits : FitsFront version log words live_count) (before after : Option (List ℕ)) → Consumes before after (front version log live_count words allowance) → IfSome after (λ rest. length rest < 8 * (words + live_count)) → IfSome before (λ input. IsReason input TruncatedBody)
truncated_reason version log live_count words allowance limits None after h few = tt
truncated_reason version log live_count words allowance limits (Some input) None h few = absurd h
truncated_reason version log live_count words allowance limits (Some input) (Some rest) h few =
    inr (inr (ap first_fault h ∙ first_fault-truncated version log live_count words allowance limits rest few))

pub nothing_left : (before after : Option (List ℕ)) (came : List ℕ) → Consumes before after came → IsAtEnd after → IfSome before (λ input. after ≡ Some [])
nothing_left None after came h e = tt
nothing_left (Some input) None came h e = absurd h
nothing_left (Some input) (Some rest) came h e = ap Some e

-- ---- a fault of the live list, or bytes after it

-- every fault that the list can give leaves what the first of its kind does
leaves_live : (root order header overlap : Option ℕ) (reference : Option (ℕ × ℕ)) (fault : Fault) (input : List ℕ) (left : Option (List ℕ))
    → first_some (option_map Root root ∷ option_map LiveOrder order ∷ option_map Header header ∷ option_map Overlap overlap ∷ option_map (λ (p : ℕ × ℕ). Reference p.0 p.1) reference ∷ []) ≡ Some fault
    → left ≡ Some (drop (encoded_length input) input) → LeavesRest fault input left
leaves_live (Some i) order header overlap reference fault input left h q = let e : Root i ≡ fault = cc in subst (λ f. LeavesRest f input left) e q
leaves_live None (Some i) header overlap reference fault input left h q = let e : LiveOrder i ≡ fault = cc in subst (λ f. LeavesRest f input left) e q
leaves_live None None (Some a) overlap reference fault input left h q = let e : Header a ≡ fault = cc in subst (λ f. LeavesRest f input left) e q
leaves_live None None None (Some a) reference fault input left h q = let e : Overlap a ≡ fault = cc in subst (λ f. LeavesRest f input left) e q
leaves_live None None None None (Some p) fault input left h q = let e : Reference p.0 p.1 ≡ fault = cc in subst (λ f. LeavesRest f input left) e q
leaves_live None None None None None fault input left h q = cc

module _ (version : Version) (image : HeapImage) (fits : HasFittingNumbers version image) (before after : Option (List ℕ)) (read : Consumes before after (listed_text version image)) where
  pub live_list_reason : (fault : Fault) → first_some (live_list_faults (from_tail version image)) ≡ Some fault → IfSome before (λ input. IsReason input fault)
  live_list_reason fault first = by before after read
    where
      by : (before after : Option (List ℕ)) → Consumes before after (listed_text version image) → IfSome before (λ input. IsReason input fault)
      by None after h = tt
      by (Some input) None h = absurd h
      by (Some input) (Some rest) h = inr (inr (ap first_fault h ∙ first_fault-append version image fits rest ∙ first_some-append (live_list_faults (from_tail version image)) (fault_if (ltb (length (listed_text version image)) (length (listed_text version image ++ rest))) Trailing ∷ []) fault first))

  pub live_list_leaves : (fault : Fault) → first_some (live_list_faults (from_tail version image)) ≡ Some fault → IfSome before (λ input. LeavesRest fault input after)
  live_list_leaves fault first = by before after read
    where
      by : (before after : Option (List ℕ)) → Consumes before after (listed_text version image) → IfSome before (λ input. LeavesRest fault input after)
      by None after h = tt
      by (Some input) None h = absurd h
      by (Some input) (Some rest) h =
          let told : encoded_length input ≡ length (listed_text version image) = ap encoded_length h ∙ length_told version image fits rest in
          let all = from_tail version image in leaves_live (misplaced_root all) (misplaced_index (heap_words all) all.live) (unsound_header all) (overlapping all) (dangling all) fault input (Some rest) first (ap Some (sym (drop_at (listed_text version image) rest (encoded_length input) (sym told)) ∙ ap (drop (encoded_length input)) (sym h)))

  module _ (sound : first_some (live_list_faults (from_tail version image)) ≡ None) (more : List ℕ) (last : Option (List ℕ)) (then : Consumes after last more) (one : length more ≡ 1) where
    pub trailing_reason : IfSome before (λ input. IsReason input Trailing)
    trailing_reason = by before after last read then
      where
        by : (before after last : Option (List ℕ)) → Consumes before after (listed_text version image) → Consumes after last more → IfSome before (λ input. IsReason input Trailing)
        by None after last h k = tt
        by (Some input) None last h k = absurd h
        by (Some input) (Some rest) None h k = absurd k
        by (Some input) (Some rest) (Some end) h k =
            let longer = length-append (listed_text version image) rest in
            let some = ap length k ∙ length-append more end in
            let behind : ltb (length (listed_text version image)) (length (listed_text version image ++ rest)) ≡ true = lt-ltb (length (listed_text version image)) (length (listed_text version image ++ rest)) (omega arith) in
            inr (inr (ap first_fault h ∙ first_fault-append version image fits rest ∙ first_some_past (live_list_faults (from_tail version image)) (fault_if (ltb (length (listed_text version image)) (length (listed_text version image ++ rest))) Trailing ∷ []) sound ∙ ap (λ b. first_some (fault_if b Trailing ∷ [])) behind))

    pub trailing_leaves : IfSome before (λ input. last ≡ Some (drop (encoded_length input + 1) input))
    trailing_leaves = by before after last read then
      where
        by : (before after last : Option (List ℕ)) → Consumes before after (listed_text version image) → Consumes after last more → IfSome before (λ input. last ≡ Some (drop (encoded_length input + 1) input))
        by None after last h k = tt
        by (Some input) None last h k = absurd h
        by (Some input) (Some rest) None h k = absurd k
        by (Some input) (Some rest) (Some end) h k =
            let told : encoded_length input ≡ length (listed_text version image) = ap encoded_length h ∙ length_told version image fits rest in
            let both = length-append (listed_text version image) more in
            let joined : input ≡ (listed_text version image ++ more) ++ end = h ∙ ap (λ l. listed_text version image ++ l) k ∙ sym (append_assoc (listed_text version image) more end) in
            ap Some (sym (drop_at (listed_text version image ++ more) end (encoded_length input + 1) (omega arith)) ∙ ap (drop (encoded_length input + 1)) (sym joined))

-- memory was allocated, so some byte after the front had come
pub memory_behind : (front : List ℕ) (before after : Option (List ℕ)) → length front ≡ 32 → Consumes before after front → IfSome after (λ rest. 0 < length rest) → IfSome before (λ input. 32 < length input)
memory_behind front None after l h some = tt
memory_behind front (Some input) None l h some = absurd h
memory_behind front (Some input) (Some rest) l h some = let long = ap length h ∙ length-append front rest in omega arith

-- the same of an input whose front has no fault
pub memory_behind_front : (version : Version) (log live_count words allowance : ℕ) → FitsFront version log words live_count → (before after : Option (List ℕ)) → Consumes before after (front version log live_count words allowance)
    → IfSome after (λ rest. 0 < length rest) → IfSome before (λ input. (32 < length input) × (first_some (front_faults input) ≡ None))
memory_behind_front version log live_count words allowance limits None after h some = tt
memory_behind_front version log live_count words allowance limits (Some input) None h some = absurd h
memory_behind_front version log live_count words allowance limits (Some input) (Some rest) h some = (
  memory_behind (front version log live_count words allowance) (Some input) (Some rest) refl h some,
  ap (λ b. first_some (front_faults b)) h ∙ front_faults-None version log live_count words allowance limits rest,
)

-- a fault of the live list is one that reading may return, and not the device's
list_kind : (root order header overlap : Option ℕ) (reference : Option (ℕ × ℕ)) (fault : Fault) → first_some (option_map Root root ∷ option_map LiveOrder order ∷ option_map Header header ∷ option_map Overlap overlap ∷ option_map (λ (p : ℕ × ℕ). Reference p.0 p.1) reference ∷ []) ≡ Some fault
    → IsOfReading fault × ((A : Type 0) → is_io {A = A} (Err fault) ≡ false)
list_kind (Some i) order header overlap reference fault h = let e : fault ≡ Root i = cc in (subst IsOfReading (sym e) tt, λ A. ap (λ f. is_io {A = A} (Err f)) e)
list_kind None (Some i) header overlap reference fault h = let e : fault ≡ LiveOrder i = cc in (subst IsOfReading (sym e) tt, λ A. ap (λ f. is_io {A = A} (Err f)) e)
list_kind None None (Some a) overlap reference fault h = let e : fault ≡ Header a = cc in (subst IsOfReading (sym e) tt, λ A. ap (λ f. is_io {A = A} (Err f)) e)
list_kind None None None (Some a) reference fault h = let e : fault ≡ Overlap a = cc in (subst IsOfReading (sym e) tt, λ A. ap (λ f. is_io {A = A} (Err f)) e)
list_kind None None None None (Some p) fault h = let e : fault ≡ Reference p.0 p.1 = cc in (subst IsOfReading (sym e) tt, λ A. ap (λ f. is_io {A = A} (Err f)) e)
list_kind None None None None None fault h = cc

pub search_kind : (image : HeapImage) (fault : Fault) → (fault ≡ Memory) ⊎ (first_some (live_list_faults image) ≡ Some fault) → IsOfReading fault × ((A : Type 0) → is_io {A = A} (Err fault) ≡ false)
search_kind image fault (inl memory) = (subst IsOfReading (sym memory) tt, λ A. ap (λ f. is_io {A = A} (Err f)) memory)
search_kind image fault (inr first) = list_kind (misplaced_root image) (misplaced_index (heap_words image) image.live) (unsound_header image) (overlapping image) (dangling image) fault first

front_kind : (fault : Fault) → IsOfFront fault → IsOfReading fault
front_kind Magic f = tt
front_kind RegionLog f = tt
front_kind Length f = tt
front_kind TruncatedHeader f = absurd f
front_kind TruncatedBody f = absurd f
front_kind (LiveOrder _) f = absurd f
front_kind (Header _) f = absurd f
front_kind (Overlap _) f = absurd f
front_kind (Reference _ _) f = absurd f
front_kind Trailing f = absurd f
front_kind Memory f = absurd f
front_kind Workers f = absurd f
front_kind Io f = absurd f
front_kind (Schedule _) f = absurd f
front_kind (Overwritten _) f = absurd f
front_kind Gate f = absurd f
front_kind (Root _) f = absurd f

pub front_refused : {A : Type 0} (bytes : List ℕ) → length bytes ≡ 32 → (before after : Option (List ℕ)) → Consumes before after bytes → (answer : Result A Fault) → IfErr answer (IsFaultOfFront bytes) → IfErr answer (IsRefusal before after)
front_refused {A = A} bytes long before after taken (Ok x) is = tt
front_refused {A = A} bytes long before after taken (Err fault) is = record {
  kind = front_kind fault is.kind;
  reason = reason_in_front {A = A} bytes long before after taken (Err fault) is.first;
  left = front_leaves {A = A} bytes long before after taken (Err fault) is.kind;
  memory = λ e. absurd (subst IsOfFront e is.kind);
}

pub body_kind : (fault : Fault) → ((fault ≡ Memory) ⊎ ((fault ≡ Io) ⊎ (fault ≡ TruncatedBody))) → IsOfReading fault
body_kind fault (inl memory) = subst IsOfReading (sym memory) tt
body_kind fault (inr (inl io)) = subst IsOfReading (sym io) tt
body_kind fault (inr (inr short)) = subst IsOfReading (sym short) tt

-- ---- how the steps of reading an image fit together

pub fitting_parts : (version : Version) (log allowance : ℕ) (blocks : List (List ℕ)) (live : List ℕ) (words live_count : ℕ) → FitsFront version log words live_count → length (concat blocks) ≡ words → length live ≡ live_count → allowance < 2 ^ 64 → All (λ w. w < 2 ^ 64) (concat blocks) → All (λ a. a < 2 ^ 64) live → HasFittingNumbers version (image_of log allowance blocks live)
fitting_parts version log allowance blocks live words live_count limits w l a fit live_fit = record {
  limits = subst (λ n. IsWithinLimits log n (length live)) (sym w) (subst (λ n. IsWithinLimits log words n) (sym l) limits.limits);
  allowed = subst (λ n. Allows version log n) (sym w) limits.allowed;
  counted = subst (λ n. n < 2 ^ 32) (sym l) limits.counted;
  allowance = a;
  words = fit;
  live = live_fit;
  plain = refl;
  listed = refl;
  own = refl;
}

-- the front and the numbers after it are the text
pub read_parts : (version : Version) (log allowance : ℕ) (blocks : List (List ℕ)) (live : List ℕ) (words live_count : ℕ) → length (concat blocks) ≡ words → length live ≡ live_count → (before middle after : Option (List ℕ))
    → Consumes before middle (front version log live_count words allowance) → Consumes middle after (numbers (concat blocks) ++ numbers live) → Consumes before after (listed_text version (image_of log allowance blocks live))
read_parts version log allowance blocks live words live_count w l before middle after h k =
    let same : front version log live_count words allowance ++ (numbers (concat blocks) ++ numbers live) ≡ listed_text version (image_of log allowance blocks live) =
    ap (λ n. front version log n words allowance ++ (numbers (concat blocks) ++ numbers live)) (sym l) ∙ ap (λ n. front version log (length live) n allowance ++ (numbers (concat blocks) ++ numbers live)) (sym w) in
    subst (λ bytes. Consumes before after bytes) same (consumes_more before middle after (front version log live_count words allowance) (numbers (concat blocks) ++ numbers live) h k)

pub body_leaves : (fault : Fault) (before middle after : Option (List ℕ)) (first came : List ℕ) → Consumes before middle first → Consumes middle after came
    → ((fault ≡ Memory) ⊎ ((fault ≡ Io) ⊎ (fault ≡ TruncatedBody))) → (fault ≡ TruncatedBody → IsAtEnd after) → IfSome before (λ input. LeavesRest fault input after)
body_leaves fault before middle after first came h k (inl memory) end = subst (λ f. IfSome before (λ input. LeavesRest f input after)) (sym memory) (some_rest before after (first ++ came) (consumes_more before middle after first came h k))
body_leaves fault before middle after first came h k (inr (inl io)) end = subst (λ f. IfSome before (λ input. LeavesRest f input after)) (sym io) (some_rest before after (first ++ came) (consumes_more before middle after first came h k))
body_leaves fault before middle after first came h k (inr (inr short)) end = subst (λ f. IfSome before (λ input. LeavesRest f input after)) (sym short) (nothing_left before after (first ++ came) (consumes_more before middle after first came h k) (end short))

pub body_reason : (version : Version) (fault : Fault) (log live_count words allowance : ℕ) (limits : FitsFront version log words live_count) (before middle : Option (List ℕ)) → Consumes before middle (front version log live_count words allowance)
    → ((fault ≡ Memory) ⊎ ((fault ≡ Io) ⊎ (fault ≡ TruncatedBody))) → (fault ≡ TruncatedBody → IfSome middle (λ rest. length rest < 8 * (words + live_count))) → IfSome before (λ input. IsReason input fault)
body_reason version fault log live_count words allowance limits before middle h (inl memory) few = for_all before
  where
    for_all : (o : Option (List ℕ)) → IfSome o (λ input. IsReason input fault)
    for_all None = tt
    for_all (Some input) = inl memory
body_reason version fault log live_count words allowance limits before middle h (inr (inl io)) few = for_all before
  where
    for_all : (o : Option (List ℕ)) → IfSome o (λ input. IsReason input fault)
    for_all None = tt
    for_all (Some input) = inr (inl io)
body_reason version fault log live_count words allowance limits before middle h (inr (inr short)) few = subst (λ f. IfSome before (λ input. IsReason input f)) (sym short) (truncated_reason version log live_count words allowance limits before middle h (few short))

module _ (version : Version) (image : HeapImage) (fits : HasFittingNumbers version image) (before after : Option (List ℕ)) (read : Consumes before after (listed_text version image)) (fault : Fault) where
  pub check_reason : ((fault ≡ Memory) ⊎ (first_some (live_list_faults (from_tail version image)) ≡ Some fault)) → IfSome before (λ input. IsReason input fault)
  check_reason (inl memory) = for_all before
    where
      for_all : (o : Option (List ℕ)) → IfSome o (λ input. IsReason input fault)
      for_all None = tt
      for_all (Some input) = inl memory
  check_reason (inr first) = live_list_reason version image fits before after read fault first

  pub check_leaves : ((fault ≡ Memory) ⊎ (first_some (live_list_faults (from_tail version image)) ≡ Some fault)) → IfSome before (λ input. LeavesRest fault input after)
  check_leaves (inl memory) = subst (λ f. IfSome before (λ input. LeavesRest f input after)) (sym memory) (some_rest before after (listed_text version image) read)
  check_leaves (inr first) = live_list_leaves version image fits before after read fault first

-- a text is longer than its front
pub more_than_front : (version : Version) (image : HeapImage) → HasFittingNumbers version image → (before after : Option (List ℕ)) → Consumes before after (listed_text version image) → IfSome before (λ input. (32 < length input) × (first_some (front_faults input) ≡ None))
more_than_front version image fits None after h = tt
more_than_front version image fits (Some input) None h = absurd h
more_than_front version image fits (Some input) (Some rest) h =
    let some = fits.limits.not_empty in
    let said = ap length h ∙ length-append (listed_text version image) rest in
    let both = length-append (numbers image.words) (numbers image.live) in
    let ws = length-numbers image.words in
    let first = front version image.region_log (length image.live) (heap_words image) image.allowance in
    let whole : length (listed_text version image) ≡ 32 + length (numbers image.words ++ numbers image.live) = length-append first (numbers image.words ++ numbers image.live) in (
      omega arith,
      ap (λ b. first_some (front_faults b)) (h ∙ append_assoc first (numbers image.words ++ numbers image.live) rest)
          ∙ front_faults-None version image.region_log (length image.live) (heap_words image) image.allowance (front_fits version image fits) ((numbers image.words ++ numbers image.live) ++ rest),
    )

pub one_taken : (buffer : List ℕ) (n : ℕ) → length buffer ≡ 1 → n ≤ length buffer → 0 < n → length (take n buffer) ≡ 1
one_taken buffer n l within some = let t = length-take n buffer in omega arith

-- no fault depends on the allowance
pub faults_same : (version : Version) (log allowance : ℕ) (blocks : List (List ℕ)) (tail : List ℕ) → live_list_faults (from_tail version (image_of log allowance blocks tail)) ≡ live_list_faults (from_tail version (image_of log 0 blocks tail))
unfolding reachable
faults_same One log allowance blocks tail = refl
faults_same Two log allowance blocks tail = refl
faults_same Three log allowance blocks tail = refl

pub live_same : (version : Version) (log allowance : ℕ) (blocks : List (List ℕ)) (tail : List ℕ) → (from_tail version (image_of log allowance blocks tail)).live ≡ (from_tail version (image_of log 0 blocks tail)).live
unfolding reachable
live_same One log allowance blocks tail = refl
live_same Two log allowance blocks tail = refl
live_same Three log allowance blocks tail = refl

pub roots_same : (version : Version) (log allowance : ℕ) (blocks : List (List ℕ)) (tail : List ℕ) → (from_tail version (image_of log allowance blocks tail)).roots ≡ (from_tail version (image_of log 0 blocks tail)).roots
roots_same One log allowance blocks tail = refl
roots_same Two log allowance blocks tail = refl
roots_same Three log allowance blocks tail = refl

-- the checks speak of the slice of a vector, and the allowance plays no part in them
pub fault_of_parts : (version : Version) (log allowance : ℕ) (blocks blocks' : List (List ℕ)) (tail : List ℕ) → blocks ≡ blocks' → (fault : Fault)
    → first_some (live_list_faults (from_tail version (image_of log 0 blocks tail))) ≡ Some fault → first_some (live_list_faults (from_tail version (image_of log allowance blocks' tail))) ≡ Some fault
fault_of_parts version log allowance blocks blocks' tail b fault first =
    ap first_some (faults_same version log allowance blocks' tail) ∙ ap (λ xs. first_some (live_list_faults (from_tail version (image_of log 0 xs tail)))) (sym b) ∙ first

pub check_of_parts : (version : Version) (log allowance : ℕ) (blocks blocks' : List (List ℕ)) (tail : List ℕ) → blocks ≡ blocks' → (fault : Fault)
    → ((fault ≡ Memory) ⊎ (first_some (live_list_faults (from_tail version (image_of log 0 blocks tail))) ≡ Some fault)) → ((fault ≡ Memory) ⊎ (first_some (live_list_faults (from_tail version (image_of log allowance blocks' tail))) ≡ Some fault))
check_of_parts version log allowance blocks blocks' tail b fault (inl memory) = inl memory
check_of_parts version log allowance blocks blocks' tail b fault (inr first) = inr (fault_of_parts version log allowance blocks blocks' tail b fault first)

pub no_fault_of_parts : (version : Version) (log allowance : ℕ) (blocks blocks' : List (List ℕ)) (tail : List ℕ) → blocks ≡ blocks' → first_some (live_list_faults (from_tail version (image_of log 0 blocks tail))) ≡ None → first_some (live_list_faults (from_tail version (image_of log allowance blocks' tail))) ≡ None
no_fault_of_parts version log allowance blocks blocks' tail b none =
    ap first_some (faults_same version log allowance blocks' tail) ∙ ap (λ xs. first_some (live_list_faults (from_tail version (image_of log 0 xs tail)))) (sym b) ∙ none

-- the parts that were found are those of the image
pub parts_are : (version : Version) (log allowance : ℕ) (blocks blocks' : List (List ℕ)) (tail live : List ℕ) (roots : Option (List ℕ)) → blocks ≡ blocks'
    → live ≡ (from_tail version (image_of log 0 blocks tail)).live → roots ≡ (from_tail version (image_of log 0 blocks tail)).roots
    → versioned_image_of version log allowance blocks' live roots ≡ from_tail version (image_of log allowance blocks' tail)
parts_are version log allowance blocks blocks' tail live roots b l r =
    let ls : live ≡ (from_tail version (image_of log allowance blocks' tail)).live = l ∙ ap (λ xs. (from_tail version (image_of log 0 xs tail)).live) b ∙ sym (live_same version log allowance blocks' tail) in
    let rs : roots ≡ (from_tail version (image_of log allowance blocks' tail)).roots = r ∙ ap (λ xs. (from_tail version (image_of log 0 xs tail)).roots) b ∙ sym (roots_same version log allowance blocks' tail) in
    ap (λ xs. versioned_image_of version log allowance blocks' xs roots) ls ∙ ap (λ o. versioned_image_of version log allowance blocks' (from_tail version (image_of log allowance blocks' tail)).live o) rs ∙ whole version
  where
    whole : (version : Version) → versioned_image_of version log allowance blocks' (from_tail version (image_of log allowance blocks' tail)).live (from_tail version (image_of log allowance blocks' tail)).roots ≡ from_tail version (image_of log allowance blocks' tail)
    whole One = refl
    whole Two = refl
    whole Three = refl
