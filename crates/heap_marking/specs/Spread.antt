-- What one part of the heap has marked, what waits there, and what it sends to the other parts.
use Rattle.std.specs.Prelude.{◌≡◌, ◌⊎◌, ℕ, ◌+◌, ◌-◌, ◌*◌, ◌/◌, ◌^◌, ◌<◌, ◌≤◌, ◌++◌, Bool, ◌&&◌, nat_le, nat_lt, true, IsTrue, List, [], All, Contains, length, Vec}
use Rattle.std.specs.Vec.{vec_capacity}
use Rattle.object_heap.specs.HeapImage.{HeapImage, heap_words, refers_to}
use Rattle.object_heap.specs.Bits.{has}
use Rattle.heap_marking.specs.Marking.{unmarked, waiting_addresses, AreFetched, IsWellFormed}
use Rattle.heap_marking.specs.Boxes.{leads, arrives}
use Rattle.heap_marking.specs.declared.marking.Waiting.{Waiting}
use Rattle.heap_marking.specs.declared.marking.part.Part.{Part}

module _ (log : ℕ) where
  -- address a is one of the part's
  abbrev pub IsIn : Part → ℕ → Type 0
  IsIn p a = (p.first ≤ a) × (a < p.first + 2 ^ log)

  abbrev pub is_in : Part → ℕ → Bool
  is_in p a = nat_le p.first a && nat_lt a (p.first + 2 ^ log)

  -- the part has marked a
  abbrev pub Marks : Part → ℕ → Type 0
  Marks p a = IsIn p a × (has p.bits (a - p.first) ≡ true)

  -- a reference to b is in the box of b's part
  abbrev pub Sends : List (List ℕ) → ℕ → Type 0
  Sends boxes b = leads boxes (b / 2 ^ log) b ≡ true

  -- b is marked here or on its way
  abbrev pub Holds : Part → ℕ → Type 0
  Holds p b = Marks p b ⊎ Sends p.out b

  -- the number of addresses of the part that are not marked
  abbrev pub open_in : Part → ℕ
  open_in p = unmarked (2 ^ log) p.bits

  module _ (words : ℕ) where
    -- what these boxes have leads to what passes
    abbrev pub AreSent : (ℕ → Bool) → List (List ℕ) → Type 0
    AreSent q boxes = (k b : ℕ) → b < words → leads boxes k b ≡ true → q b ≡ true

    -- what the part has marked and sent passes
    abbrev pub IsSound : (ℕ → Bool) → Part → Type 0
    IsSound q p = ((a : ℕ) → Marks p a → q a ≡ true) × AreSent q p.out

    -- these addresses are marked here
    abbrev pub AreWaitingIn : Part → List ℕ → Type 0
    AreWaitingIn p pending = (a : ℕ) → Contains pending a → (a < words) × Marks p a

    -- the addresses on the stack are marked here
    abbrev pub AreWaiting : Part → Type 0
    AreWaiting p = AreWaitingIn p p.stack.items

    -- The targets are held, and nothing else that was not. Those that became marked are pushed on the stack.
    pub record IsSpread (targets : ℕ → Bool) (p p' : Part) : Type 0 where
      pub first : p'.first ≡ p.first
      pub room : length p'.bits ≡ length p.bits
      pub boxes : length p'.out ≡ length p.out
      pub kept : (a : ℕ) → Marks p a → Marks p' a
      pub sent : (b : ℕ) → Sends p.out b → Sends p'.out b
      pub all : (b : ℕ) → b < words → targets b ≡ true → Holds p' b
      pub pending : (a : ℕ) → Marks p' a → Marks p a ⊎ Contains p'.stack.items a
      pub stacked : (a : ℕ) → Contains p.stack.items a → Contains p'.stack.items a
      pub sound : (q : ℕ → Bool) → ((b : ℕ) → b < words → targets b ≡ true → q b ≡ true) → IsSound q p → IsSound q p'
      pub inside : AreWaiting p → AreWaiting p'
      pub total : length p'.stack.items + open_in p' ≡ length p.stack.items + open_in p

    -- the same, and nothing is sent or noted
    pub record IsTaken (targets : ℕ → Bool) (p p' : Part) : Type 0 where
      pub spread : IsSpread targets p p'
      pub out : p'.out ≡ p.out
      pub well_formed : p'.well_formed ≡ p.well_formed

    -- the part is of a size that there is, has room for its marks, and a box for each part of the heap
    pub record IsPart (p : Part) : Type 0 where
      pub small : log ≤ 30
      pub inside : p.first < words
      pub bits : 2 ^ log < 64 * length p.bits
      pub boxes : (b : ℕ) → b < words → b / 2 ^ log < length p.out

    -- each of these rows has a box for each part of the heap
    abbrev pub AreRows : List (List (List ℕ)) → Type 0
    AreRows sent = All (λ boxes. (b : ℕ) → b < words → b / 2 ^ log < length boxes) sent

    -- the part can do its work of a round in which these rows of boxes arrive
    pub record IsReady (sent : List (List (List ℕ))) (p : Part) : Type 0 where
      pub part : IsPart p
      pub waiting : AreWaiting p
      pub rows : AreRows sent

  module _ (image : HeapImage) where
    -- all references of the object at a are held, and it is well-formed if the flag of the part is set
    pub record IsFollowed (p : Part) (a : ℕ) : Type 0 where
      pub held : (b : ℕ) → b < heap_words image → refers_to image a b ≡ true → Holds p b
      pub formed : IsTrue p.well_formed → IsWellFormed image a

    -- The part is on its way from p0 in a round in which these rows of boxes arrive: what arrives is marked, and what
    -- was on the stack or is marked since is pending or followed.
    pub record IsRunning (sent : List (List (List ℕ))) (p0 p : Part) (pending : List ℕ) : Type 0 where
      pub first : p.first ≡ p0.first
      pub room : length p.bits ≡ length p0.bits
      pub boxes : length p.out ≡ length p0.out
      pub kept : (a : ℕ) → Marks p0 a → Marks p a
      pub taken : (b : ℕ) → b < heap_words image → IsIn p0 b → arrives sent (p0.first / 2 ^ log) b ≡ true → Marks p b
      pub followed : (a : ℕ) → Marks p a → Marks p0 a ⊎ (Contains pending a ⊎ IsFollowed p a)
      pub stacked : (a : ℕ) → Contains p0.stack.items a → Contains pending a ⊎ IsFollowed p a
      pub sound : (q : ℕ → Bool) → ((a b : ℕ) → q a ≡ true → refers_to image a b ≡ true → b < heap_words image → q b ≡ true)
          → ((a : ℕ) → Marks p0 a → q a ≡ true) → ((k b : ℕ) → b < heap_words image → arrives sent k b ≡ true → q b ≡ true)
          → IsSound (heap_words image) q p
      pub inside : AreWaitingIn (heap_words image) p pending
      pub well_formed : IsTrue p.well_formed → IsTrue p0.well_formed

    -- the part has done its work of a round
    abbrev pub IsRoundOf : List (List (List ℕ)) → Part → Part → Type 0
    IsRoundOf sent p0 p = IsRunning sent p0 p p.stack.items

    -- a part that was on its way in a round, with this pending, still is, with what is on its stack
    abbrev pub RunsOn : Part → List ℕ → Part → Type 0
    RunsOn p pending p' = (sent : List (List (List ℕ))) → (p0 : Part) → IsRunning sent p0 p pending → IsRoundOf sent p0 p'

    -- the objects of the batch are followed, and it is empty
    pub record IsBatchFollowed {Z : Type 0} (p p' : Part) (batch batch' : Vec Waiting Z) : Type 0 where
      pub running : RunsOn p (p.stack.items ++ waiting_addresses batch.items) p'
      pub part : IsPart (heap_words image) p'
      pub inside : AreWaiting (heap_words image) p'
      pub total : length p'.stack.items + open_in p' ≡ length p.stack.items + open_in p
      pub empty : batch'.items ≡ []
      pub batch_capacity : vec_capacity batch' ≡ vec_capacity batch

-- the top of the part's stack is in the batch, with its headers
pub record IsBatchTaken {Z : Type 0} (image : HeapImage) (p p' : Part) (batch batch' : Vec Waiting Z) : Type 0 where
  pub first : p'.first ≡ p.first
  pub bits : p'.bits ≡ p.bits
  pub out : p'.out ≡ p.out
  pub well_formed : p'.well_formed ≡ p.well_formed
  pub cut : p.stack.items ≡ p'.stack.items ++ waiting_addresses batch'.items
  pub fetched : AreFetched image batch'.items
  pub some : 0 < length p.stack.items → 0 < length batch'.items
  pub batch_capacity : vec_capacity batch' ≡ vec_capacity batch
