-- Marks while they grow, and the addresses whose references are still to be followed.
use Rattle.std.specs.Prelude.{◌≡◌, ◌⊎◌, ℕ, ◌+◌, ◌/◌, ◌<◌, ◌≤◌, Bool, true, false, not, IsTrue, List, ◌++◌, [], All, Contains, length, count_by, map, Vec}
use Rattle.std.specs.List.{list_any, range_with_len}
use Rattle.std.specs.Vec.{vec_capacity}
use Rattle.object_heap.specs.HeapImage.{HeapImage, heap_words, word_at, references_at, reference_at, is_unsound, leads_to, refers_to, reachable}
use Rattle.object_heap.specs.Bits.{has}
use Rattle.object_heap.specs.Reachable.{is_listed}
use Rattle.heap_marking.specs.declared.marking.Marked.{Marked}
use Rattle.heap_marking.specs.declared.marking.Marking.{Marking}
use Rattle.heap_marking.specs.declared.marking.Waiting.{Waiting}

-- the number of addresses below `words` that are not marked
abbrev pub unmarked : ℕ → List ℕ → ℕ
unmarked words bits = count_by (λ a. not (has bits a)) (range_with_len 0 words)

-- the addresses of the objects that wait
abbrev pub waiting_addresses : List Waiting → List ℕ
waiting_addresses batch = map (λ w. w.address) batch

-- the headers of these objects are those in the heap
abbrev pub AreFetched : HeapImage → List Waiting → Type 0
AreFetched image batch = All (λ w. w.header ≡ word_at image w.address) batch

-- a batch is empty, and has room for 64 objects
pub record IsReadyBatch {Z : Type 0} (batch : Vec Waiting Z) : Type 0 where
  pub empty : batch.items ≡ []
  pub room : 64 ≤ vec_capacity batch

-- the flag is set only where it was and this holds
abbrev pub Notes : Bool → Bool → Type 0 → Type 0
Notes old new noted = IsTrue new → IsTrue old × noted

-- one of these references leads to b
abbrev pub leads_any : List ℕ → ℕ → Bool
leads_any references b = list_any (λ w. leads_to w b) references

-- the addresses on the stack are below the number of words, and marked
abbrev pub AreStacked : ℕ → List ℕ → List ℕ → Type 0
AreStacked words bits stack = All (λ a. (a < words) × (has bits a ≡ true)) stack

-- The targets become marked, and no other address does. Those that weren't marked before are pushed on the stack.
pub record IsGrown (words : ℕ) (targets : ℕ → Bool) (bits new_bits stack new_stack : List ℕ) : Type 0 where
  pub room : length new_bits ≡ length bits
  pub kept : (a : ℕ) → a < words → has bits a ≡ true → has new_bits a ≡ true
  pub all : (a : ℕ) → a < words → targets a ≡ true → has new_bits a ≡ true
  pub none_else : (a : ℕ) → a < words → has new_bits a ≡ true → (has bits a ≡ true) ⊎ (targets a ≡ true)
  pub pending : (a : ℕ) → a < words → has new_bits a ≡ true → (has bits a ≡ true) ⊎ Contains new_stack a
  pub stacked : (a : ℕ) → Contains stack a → Contains new_stack a
  pub outside : (a : ℕ) → words ≤ a → has new_bits a ≡ has bits a
  pub total : length new_stack + unmarked words new_bits ≡ length stack + unmarked words bits
  pub inside : AreStacked words bits stack → AreStacked words new_bits new_stack

-- the bits have room for a mark of each address of the heap, and of the one after
pub record HasRoom (m : Marking) : Type 0 where
  pub few : m.words ≤ 68719476736
  pub bits : m.words / 64 < length m.bits

-- the same of a marking, in the same heap
pub record Grows (targets : ℕ → Bool) (m m' : Marking) : Type 0 where
  pub grown : IsGrown m.words targets m.bits m'.bits m.stack.items m'.stack.items
  pub words : m'.words ≡ m.words

-- the object at a has a sound header, and none of its references leads out of the heap
pub record IsWellFormed (image : HeapImage) (a : ℕ) : Type 0 where
  pub sound : is_unsound image a ≡ false
  pub inside : (f : ℕ) → f < references_at image a → reference_at image a f ≤ heap_words image

-- All marked addresses are reachable, the roots are marked, and the references of each marked object that isn't on the
-- stack are followed. If the flag is set, all followed objects are well-formed.
pub record IsMarking (image : HeapImage) (roots bits stack : List ℕ) (well_formed : Bool) : Type 0 where
  pub room : length bits ≡ heap_words image / 64 + 1
  pub inside : AreStacked (heap_words image) bits stack
  pub reached : (a : ℕ) → a < heap_words image → has bits a ≡ true → is_listed (reachable image roots) a ≡ true
  pub outside : (a : ℕ) → heap_words image ≤ a → has bits a ≡ false
  pub started : (a : ℕ) → a < heap_words image → list_any (λ w. leads_to w a) roots ≡ true → has bits a ≡ true
  pub followed : (a : ℕ) → a < heap_words image → has bits a ≡ true
      → Contains stack a ⊎ ((b : ℕ) → b < heap_words image → refers_to image a b ≡ true → has bits b ≡ true)
  pub formed : IsTrue well_formed → (a : ℕ) → a < heap_words image → has bits a ≡ true → Contains stack a ⊎ IsWellFormed image a

-- a marking of this heap is under way from these roots
pub record IsUnderway (image : HeapImage) (roots : List ℕ) (m : Marking) : Type 0 where
  pub words : m.words ≡ heap_words image
  pub marking : IsMarking image roots m.bits m.stack.items m.well_formed

-- a marking that was under way, with this pending, still is, with the other pending
abbrev pub GoesOn : HeapImage → Marking → List ℕ → Marking → List ℕ → Type 0
GoesOn image m pending m' pending' = (roots : List ℕ) → IsMarking image roots m.bits pending m.well_formed → IsMarking image roots m'.bits pending' m'.well_formed

-- the top of the stack is in the batch, with its headers
pub record IsBatchTaken {Z : Type 0} (image : HeapImage) (m m' : Marking) (batch batch' : Vec Waiting Z) : Type 0 where
  pub marking : GoesOn image m m.stack.items m' (m'.stack.items ++ waiting_addresses batch'.items)
  pub fetched : AreFetched image batch'.items
  pub total : length m'.stack.items + length batch'.items ≡ length m.stack.items
  pub some : 0 < length m.stack.items → 0 < length batch'.items
  pub bits : m'.bits ≡ m.bits
  pub words : m'.words ≡ m.words
  pub batch_capacity : vec_capacity batch' ≡ vec_capacity batch

-- the objects of the batch are followed, and it is empty
pub record IsBatchFollowed {Z : Type 0} (image : HeapImage) (m m' : Marking) (batch batch' : Vec Waiting Z) : Type 0 where
  pub marking : GoesOn image m (m.stack.items ++ waiting_addresses batch.items) m' m'.stack.items
  pub total : length m'.stack.items + unmarked m'.words m'.bits ≡ length m.stack.items + unmarked m.words m.bits
  pub empty : batch'.items ≡ []
  pub words : m'.words ≡ m.words
  pub batch_capacity : vec_capacity batch' ≡ vec_capacity batch

-- the marked addresses are the reachable ones
pub record AreReached (image : HeapImage) (roots bits : List ℕ) : Type 0 where
  pub room : length bits ≡ heap_words image / 64 + 1
  pub marked : (a : ℕ) → a < heap_words image → has bits a ≡ is_listed (reachable image roots) a
  pub outside : (a : ℕ) → heap_words image ≤ a → has bits a ≡ false

-- the reachable objects have sound headers, and none of their references leads out of the heap
abbrev pub AreReachedWell : HeapImage → List ℕ → Type 0
AreReachedWell image roots = (a : ℕ) → a < heap_words image → is_listed (reachable image roots) a ≡ true → IsWellFormed image a

-- marking has ended in this
pub record IsFinished (image : HeapImage) (roots : List ℕ) (marked : Marked) : Type 0 where
  pub reached : AreReached image roots marked.bits
  pub well_formed : IsTrue marked.well_formed → AreReachedWell image roots
