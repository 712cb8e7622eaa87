-- Marks while they grow, and what waits to be followed.
use Rattle.std.specs.Prelude.{◌≡◌, ◌⊎◌, ℕ, ◌+◌, ◌/◌, ◌<◌, ◌≤◌, ◌||◌, ◌==◌, Bool, true, false, not, List, [], Contains, length, count_by}
use Rattle.std.specs.List.{list_any, range_with_len}
use Rattle.std.specs.Vec.{vec_capacity}
use Rattle.object_heap.specs.Layout.{Layout, reference_in}
use Rattle.object_heap.specs.HeapImage.{HeapImage, heap_words, word_at, is_unsound, leads_to, refers_to}
use Rattle.object_heap.specs.Bits.{has}
use Rattle.coded_marking.specs.declared.tracing.Tracing.{Tracing}
use Rattle.coded_marking.specs.declared.waiting.Waiting.{Waiting}

-- the number of addresses below `words` that the set lacks
abbrev pub absent : ℕ → List ℕ → ℕ
absent words bits = count_by (λ a. not (has bits a)) (range_with_len 0 words)

-- one of these words leads to b
abbrev pub leads_any : Layout → List ℕ → ℕ → Bool
leads_any layout words b = list_any (λ w. leads_to (reference_in layout w) b) words

-- The sets have room for the addresses of the heap. What was followed or waits on the stack is marked.
pub record IsSteady (t : Tracing) : Type 0 where
  pub few : t.words ≤ 68719476736
  pub room : length t.marked ≡ t.words / 64 + 1
  pub followed-room : length t.followed ≡ t.words / 64 + 1
  pub outside : (a : ℕ) → t.words ≤ a → has t.marked a ≡ false
  pub stacked : (a : ℕ) → Contains t.stack.items a → has t.marked a ≡ true
  pub followed : (a : ℕ) → has t.followed a ≡ true → has t.marked a ≡ true
  pub capacity : 0 < vec_capacity t.stack

-- An address is pushed on the stack, or the stack isn't complete any more.
pub record Pushes (a : ℕ) (t t' : Tracing) : Type 0 where
  pub words : t'.words ≡ t.words
  pub marked : t'.marked ≡ t.marked
  pub followed : t'.followed ≡ t.followed
  pub stacked : (b : ℕ) → Contains t.stack.items b → Contains t'.stack.items b
  pub pending : t'.complete ≡ true → (t.complete ≡ true) × Contains t'.stack.items a
  pub fresh : (b : ℕ) → Contains t'.stack.items b → Contains t.stack.items b ⊎ (b ≡ a)
  pub some : 0 < length t'.stack.items
  pub few : length t'.stack.items ≤ length t.stack.items + 1

-- The marked addresses of the i-th word of bits that weren't followed are pushed on the stack, or it isn't complete any more.
pub record PushesWord (i : ℕ) (t t' : Tracing) : Type 0 where
  pub words : t'.words ≡ t.words
  pub marked : t'.marked ≡ t.marked
  pub followed : t'.followed ≡ t.followed
  pub stacked : (b : ℕ) → Contains t.stack.items b → Contains t'.stack.items b
  pub complete : t'.complete ≡ true → t.complete ≡ true
  pub pending : t'.complete ≡ true → (a : ℕ) → a / 64 ≡ i → has t.marked a ≡ true → (has t.followed a ≡ true) ⊎ Contains t'.stack.items a
  pub fresh : (b : ℕ) → Contains t'.stack.items b → Contains t.stack.items b ⊎ (has t.followed b ≡ false)
  pub lost : (t'.complete ≡ t.complete) ⊎ (0 < length t'.stack.items)

-- The targets become marked, and no other address does. Those that weren't marked before are pushed on the stack, or it isn't
-- complete any more.
pub record Grows (targets : ℕ → Bool) (t t' : Tracing) : Type 0 where
  pub words : t'.words ≡ t.words
  pub marks : (b : ℕ) → has t'.marked b ≡ (has t.marked b || targets b)
  pub stacked : (b : ℕ) → Contains t.stack.items b → Contains t'.stack.items b
  pub complete : t'.complete ≡ true → t.complete ≡ true
  pub pending : t'.complete ≡ true → (b : ℕ) → targets b ≡ true → (has t.marked b ≡ true) ⊎ Contains t'.stack.items b
  pub total : length t'.stack.items + absent t'.words t'.marked ≤ length t.stack.items + absent t.words t.marked

-- one more address is followed
abbrev pub Follows : ℕ → Tracing → Tracing → Type 0
Follows a t t' = (k : ℕ) → has t'.followed k ≡ (has t.followed k || a == k)

-- no more than that the stack isn't complete any more
pub record Stops (t t' : Tracing) : Type 0 where
  pub words : t'.words ≡ t.words
  pub marked : t'.marked ≡ t.marked
  pub followed : t'.followed ≡ t.followed
  pub stack : t'.stack.items ≡ t.stack.items
  pub incomplete : t'.complete ≡ false

-- the object at a has a sound header, and all to which it refers is marked
pub record IsFollowed (image : HeapImage) (bits : List ℕ) (a : ℕ) : Type 0 where
  pub sound : is_unsound image a ≡ false
  pub targets : (b : ℕ) → b < heap_words image → refers_to image a b ≡ true → has bits b ≡ true

-- the object at a is one of these
abbrev pub IsHeld : List Waiting → ℕ → Type 0
IsHeld batch a = (w : Waiting) × Contains batch w × (w.address ≡ a)

-- Marking is under way from these words as roots and what was marked before, which counts as followed: no more is marked than
-- what they reach. If the stack is complete, all below the limit that still has to be followed is on it or in the batch.
pub record IsUnderway (image : HeapImage) (roots : List ℕ) (before : ℕ → Bool) (limit : ℕ) (batch : List Waiting) (t : Tracing) : Type 0 where
  pub kept : (a : ℕ) → before a ≡ true → has t.marked a ≡ true
  pub reached : (passes : ℕ → Bool) → ((b : ℕ) → b < heap_words image → leads_any image.layout roots b ≡ true → passes b ≡ true)
      → ((a b : ℕ) → passes a ≡ true → refers_to image a b ≡ true → b < heap_words image → passes b ≡ true)
      → ((a : ℕ) → before a ≡ true → passes a ≡ true) → (a : ℕ) → has t.marked a ≡ true → passes a ≡ true
  pub started : (b : ℕ) → b < heap_words image → leads_any image.layout roots b ≡ true → has t.marked b ≡ true
  pub followed : (a : ℕ) → has t.followed a ≡ true → (before a ≡ true) ⊎ IsFollowed image t.marked a
  pub waiting : t.complete ≡ true → (a : ℕ) → a < limit → has t.marked a ≡ true
      → (before a ≡ true) ⊎ Contains t.stack.items a ⊎ IsFollowed image t.marked a ⊎ IsHeld batch a

-- what was under way still is
abbrev pub GoesOn : HeapImage → Tracing → Tracing → Type 0
GoesOn image t t' = (roots : List ℕ) (before : ℕ → Bool) (limit : ℕ) → IsUnderway image roots before limit [] t → IsUnderway image roots before limit [] t'

-- what was followed still is
abbrev pub KeepsFollowed : Tracing → Tracing → Type 0
KeepsFollowed t t' = (a : ℕ) → has t.followed a ≡ true → has t'.followed a ≡ true

-- each address that was on the stack is followed
abbrev pub IsEmptied : Tracing → Tracing → Type 0
IsEmptied t t' = (a : ℕ) → Contains t.stack.items a → has t'.followed a ≡ true

-- the stack is complete, or one more address is followed
abbrev pub GetsOn : Tracing → Tracing → Type 0
GetsOn t t' = (t'.complete ≡ true) ⊎ (absent t'.words t'.followed < absent t.words t.followed)

-- the object at an address is marked, and has no sound header
pub record IsUnsoundThere (image : HeapImage) (t : Tracing) (a : ℕ) : Type 0 where
  pub marked : has t.marked a ≡ true
  pub unsound : is_unsound image a ≡ true

-- what is on the stack still is
abbrev pub KeepsStacked : Tracing → Tracing → Type 0
KeepsStacked t t' = (a : ℕ) → Contains t.stack.items a → Contains t'.stack.items a

-- the object is marked, and this is its header
pub record IsFetched (image : HeapImage) (t : Tracing) (w : Waiting) : Type 0 where
  pub marked : has t.marked w.address ≡ true
  pub header : w.header ≡ word_at image w.address

-- all of them are
abbrev pub AreFetched : HeapImage → Tracing → List Waiting → Type 0
AreFetched image t batch = (w : Waiting) → Contains batch w → IsFetched image t w

-- each of these objects was followed
abbrev pub AreFollowed : List Waiting → Tracing → Type 0
AreFollowed batch t = (a : ℕ) → IsHeld batch a → has t.followed a ≡ true

-- objects go from the stack to a batch
pub record Takes (image : HeapImage) (t t' : Tracing) (batch : List Waiting) : Type 0 where
  pub words : t'.words ≡ t.words
  pub marked : t'.marked ≡ t.marked
  pub followed : t'.followed ≡ t.followed
  pub complete : t'.complete ≡ t.complete
  pub moved : (a : ℕ) → Contains t.stack.items a → Contains t'.stack.items a ⊎ IsHeld batch a
  pub fetched : AreFetched image t batch
  pub total : length t'.stack.items + length batch ≡ length t.stack.items
