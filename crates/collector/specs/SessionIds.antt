-- What tells the shares of one session from those of others.
use Rattle.std.specs.Prelude.{◌≡◌, ◌≤◌, ℕ, List, Option, length, All}
use Rattle.object_heap.specs.HeapImage.{HeapImage}

-- What a session compacts: an image, or opaque objects that lie where those of the image do, in regions with these words.
pub record SessionHeap : Type 0 where
  pub image : HeapImage
  pub held : Option (List (List ℕ))

-- what a session compacts, the term for which it is shared out, and the number of its workers
pub record SessionView : Type 0 where
  pub heap : SessionHeap
  pub origin : ℕ
  pub workers : ℕ

-- the slots of a session, one for each of its 1 to 64 workers
pub record AreSlots (id : SessionView) (slots : List SessionView) : Type 0 where
  pub same : All (λ slot. slot ≡ id) slots
  pub count : length slots ≡ id.workers
  pub some : 1 ≤ id.workers
  pub few : id.workers ≤ 64
