-- The parts of a heap between two rounds, and the references on their way between them.
use Rattle.std.specs.Prelude.{◌≡◌, ◌⊎◌, ℕ, ◌+◌, ◌-◌, ◌*◌, ◌/◌, ◌^◌, ◌<◌, ◌≤◌, Bool, ◌||◌, true, false, List, [], All, Contains, length, slice_index_or, IsTrue}
use Rattle.std.specs.List.{list_any}
use Rattle.object_heap.specs.HeapImage.{HeapImage, heap_words, leads_to, refers_to}
use Rattle.object_heap.specs.Bits.{has}
use Rattle.heap_marking.specs.Marking.{IsMarking, IsWellFormed}
use Rattle.object_heap.specs.Reachable.{IsClosed}
use Rattle.heap_marking.specs.Boxes.{arrives, leads}
use Rattle.heap_marking.specs.Spread.{Marks, Sends, AreSent, AreWaiting, IsPart, AreRows, IsRoundOf}
use Rattle.heap_marking.specs.declared.marking.Marking.{Marking}
use Rattle.heap_marking.specs.declared.marking.part.Part.{Part}
use Rattle.heap_marking.specs.declared.marking.rounds.Rounds.{Rounds}

-- nothing is marked in the part, and nothing waits
pub record IsUnmarked (p : Part) : Type 0 where
  pub clear : (i : ℕ) → has p.bits i ≡ false
  pub empty : p.stack.items ≡ []

-- a part without marks, beside this number of parts in all
pub record IsNew (log begin parts : ℕ) (p : Part) : Type 0 where
  pub first : p.first ≡ begin
  pub bits : 2 ^ log < 64 * length p.bits
  pub out : length p.out ≡ parts
  pub unmarked : IsUnmarked p

module _ (log : ℕ) where
  -- the mark of an address
  abbrev pub mark_of : List Part → ℕ → Part → Bool
  mark_of parts a d = has (slice_index_or parts (a / 2 ^ log) d).bits (a - (a / 2 ^ log) * 2 ^ log)

  module _ (image : HeapImage) where
    -- the k-th part
    pub record IsPartAt (k : ℕ) (p : Part) : Type 0 where
      pub first : p.first ≡ k * 2 ^ log
      pub part : IsPart log (heap_words image) p
      pub waiting : AreWaiting log (heap_words image) p

    abbrev pub AreParts : List Part → Type 0
    AreParts parts = (k : ℕ) (d : Part) → k < length parts → IsPartAt k (slice_index_or parts k d)

    -- these are the parts of the heap, and a row of boxes for each
    pub record IsLayout (parts : List Part) (sent : List (List (List ℕ))) : Type 0 where
      pub small : log ≤ 30
      pub count : (b : ℕ) → b < heap_words image → b / 2 ^ log < length parts
      pub rows : length sent ≡ length parts
      pub boxes : AreRows log (heap_words image) sent
      pub parts_are : AreParts parts

    -- b is marked, or on its way
    abbrev pub IsHeld : List Part → List (List (List ℕ)) → ℕ → Type 0
    IsHeld parts sent b = ((d : Part) → Marks log (slice_index_or parts (b / 2 ^ log) d) b) ⊎ (arrives sent (b / 2 ^ log) b ≡ true)

    -- all references of the object at a are held, and it is well-formed if the flag of its part is set
    pub record IsTraced (parts : List Part) (sent : List (List (List ℕ))) (p : Part) (a : ℕ) : Type 0 where
      pub held : (b : ℕ) → b < heap_words image → refers_to image a b ≡ true → IsHeld parts sent b
      pub formed : IsTrue p.well_formed → IsWellFormed image a

    -- What is marked or on its way is reachable from the roots, each root's target is marked or on its way, and each
    -- marked object waits on the stack of its part or is traced.
    pub record IsState (roots : List ℕ) (parts : List Part) (sent : List (List (List ℕ))) : Type 0 where
      pub marked : (q : ℕ → Bool) → IsClosed image roots q → (k : ℕ) (d : Part) (a : ℕ) → k < length parts → Marks log (slice_index_or parts k d) a → q a ≡ true
      pub sent_are : (q : ℕ → Bool) → IsClosed image roots q → (k b : ℕ) → b < heap_words image → arrives sent k b ≡ true → q b ≡ true
      pub started : (b : ℕ) → b < heap_words image → list_any (λ w. leads_to w b) roots ≡ true → IsHeld parts sent b
      pub followed : (k : ℕ) (d : Part) (a : ℕ) → k < length parts → Marks log (slice_index_or parts k d) a
          → Contains (slice_index_or parts k d).stack.items a ⊎ IsTraced parts sent (slice_index_or parts k d) a

    -- each part has done its work of a round, or has noted that memory ran out
    pub record HaveTurned (sent : List (List (List ℕ))) (old new : List Part) : Type 0 where
      pub count : length new ≡ length old
      pub each : (k : ℕ) (d : Part) → k < length old → IsTrue (slice_index_or new k d).failed
          ⊎ IsRoundOf log image sent (slice_index_or old k d) (slice_index_or new k d)

-- one root more is on its way
pub record IsRooted (log words w : ℕ) (row row' : List (List ℕ)) : Type 0 where
  pub sent : (p : ℕ → Bool) → ((b : ℕ) → b < words → p b ≡ true → Sends log row b) → (b : ℕ) → b < words → (p b || leads_to w b) ≡ true → Sends log row' b
  pub sound : (p : ℕ → Bool) → AreSent log words p row → AreSent log words (λ b. p b || leads_to w b) row'

-- what a part sent is on its way, and the row that was on its way lies with the part
pub record IsSwapped (p p' : Part) (row row' : List (List ℕ)) : Type 0 where
  pub first : p'.first ≡ p.first
  pub bits : p'.bits ≡ p.bits
  pub stack : p'.stack ≡ p.stack
  pub well_formed : p'.well_formed ≡ p.well_formed
  pub lies : p'.out ≡ row
  pub leaves : row' ≡ p.out

-- the same of each part
pub record AreExchanged (parts parts' : List Part) (sent sent' : List (List (List ℕ))) : Type 0 where
  pub parts_count : length parts' ≡ length parts
  pub sent_count : length sent' ≡ length sent
  pub each : (k : ℕ) (d : Part) (e : List (List ℕ)) → k < length parts
      → IsSwapped (slice_index_or parts k d) (slice_index_or parts' k d) (slice_index_or sent k e) (slice_index_or sent' k e)

-- address a waits on the stack of one of the parts
abbrev pub WaitsIn : List Part → ℕ → Type 0
WaitsIn parts a = (k : ℕ) × (k < length parts) × ((d : Part) → Contains (slice_index_or parts k d).stack.items a)

-- the addresses on this stack are those that wait in the parts
pub record AreAllWaiting (parts : List Part) (stack : List ℕ) : Type 0 where
  pub all : (k : ℕ) (d : Part) (a : ℕ) → k < length parts → Contains (slice_index_or parts k d).stack.items a → Contains stack a
  pub from : (a : ℕ) → Contains stack a → WaitsIn parts a

module _ (log words : ℕ) (parts : List Part) where
  -- the parts begin at words of bits, and cover this number of addresses
  pub record AreJoinable : Type 0 where
    pub low : 6 ≤ log
    pub high : log ≤ 30
    pub few : words ≤ 68719476736
    pub covers : words ≤ length parts * 2 ^ log
    pub bits : All (λ p. 2 ^ log < 64 * length p.bits) parts

  -- these bits are those of the parts, as far as there are words, and there is one for the address after them
  pub record AreJoinedIn (bits : List ℕ) : Type 0 where
    pub room : length bits ≡ words / 64 + 1
    pub marks : (a : ℕ) (d : Part) → a / 64 < words / 64 + 1 → a / 2 ^ log < length parts → has bits a ≡ mark_of log parts a d
    pub outside : (a : ℕ) → length parts ≤ a / 2 ^ log → has bits a ≡ false

module _ (image : HeapImage) where
  abbrev pub HasLayout : Rounds → Type 0
  HasLayout rounds = IsLayout rounds.log image rounds.parts.items rounds.sent.items

  abbrev pub HasState : List ℕ → Rounds → Type 0
  HasState roots rounds = IsState rounds.log image roots rounds.parts.items rounds.sent.items

  -- nothing is marked in these parts, and the roots are on their way
  pub record HasBegun (size : ℕ) (roots : List ℕ) (rounds : Rounds) : Type 0 where
    pub log : rounds.log ≡ size
    pub layout : HasLayout rounds
    pub state : HasState roots rounds

  -- rounds have run, or none
  pub record Advances (old new : Rounds) : Type 0 where
    pub log : new.log ≡ old.log
    pub layout : HasLayout new
    pub state : (roots : List ℕ) → HasState roots old → HasState roots new

  -- the marking goes on where the rounds have ended
  pub record IsContinued (rounds : Rounds) (m : Marking) : Type 0 where
    pub words : m.words ≡ heap_words image
    pub marking : (roots : List ℕ) → HasState roots rounds → IsMarking image roots m.bits m.stack.items m.well_formed

-- this number of parts covers the heap, and each is needed
pub record IsPartCount (log words count : ℕ) : Type 0 where
  pub inside : (b : ℕ) → b < words → b / 2 ^ log < count
  pub needed : (k : ℕ) → k < count → k * 2 ^ log < words

-- these are this number of parts of the heap, without marks
pub record AreUnmarked (log : ℕ) (image : HeapImage) (size : ℕ) (row : List Part) : Type 0 where
  pub count : length row ≡ size
  pub parts : AreParts log image row
  pub clear : (k : ℕ) (d : Part) → k < length row → IsUnmarked (slice_index_or row k d)

-- the roots are in this number of boxes, each in that of the part of its target
pub record IsRootRow (log words size : ℕ) (roots : List ℕ) (row : List (List ℕ)) : Type 0 where
  pub count : length row ≡ size
  pub sent : (b : ℕ) → b < words → list_any (λ w. leads_to w b) roots ≡ true → Sends log row b
  pub sound : AreSent log words (λ b. list_any (λ w. leads_to w b) roots) row

-- this number of rows, of as many boxes each, has what this row has
pub record AreRowsOf (size : ℕ) (row : List (List ℕ)) (sent : List (List (List ℕ))) : Type 0 where
  pub count : length sent ≡ size
  pub boxes : (j : ℕ) (d : List (List ℕ)) → j < length sent → length (slice_index_or sent j d) ≡ size
  pub same : (k b : ℕ) → arrives sent k b ≡ leads row k b
