-- A queue of ready regions, and the invariant of its deque.
use Rattle.std.specs.Prelude.{◌≡◌, ℕ, ◌≤◌, true, List, ◌++◌, length}
use mathlib.Core.Option.{some}
use lib.ListN.{get_elem?}
use Rattle.ready_queues.specs.declared.shared_queue.Pushed.{Pushed}

-- How many numbers a queue takes in all, and those that were pushed so far, oldest first, taken or not.
pub record Queue : Type 0 where
  pub room : ℕ
  pub pushed : List ℕ

-- what the list of a queue keeps, by the room of the queue, how many numbers were taken, and the room of the list
pub record IsOwnQueue (room taken : ℕ) (numbers : List ℕ) (capacity : ℕ) : Type 0 where
  pub taken_first : taken ≤ length numbers
  pub within : length numbers ≤ room
  pub reserved : room ≤ capacity

-- what the owner of a deque knows
abbrev pub pushed_so_far : List ℕ → Pushed
pushed_so_far numbers = record { owner = true; numbers = numbers }

-- The deque holds the last of the numbers that were pushed, in their order; the others were taken. At most one pass is
-- the owner's, and it knows all numbers that were pushed.
pub record HoldsTheRest (items : List ℕ) (views : List Pushed) : Type 0 where
  pub owner : ℕ
  pub numbers : List ℕ
  pub taken : List ℕ
  pub rest : numbers ≡ taken ++ items
  pub known : (pass : ℕ) (view : Pushed) → get_elem? views pass ≡ some view → view.owner ≡ true → (pass ≡ owner) × (view.numbers ≡ numbers)

-- the invariant of a queue, by its room, its number of pushes and its deque
pub record IsQueue (room pushes : ℕ) (view : Pushed) (flavor capacity back : ℕ) : Type 0 where
  pub owner : view.owner ≡ true
  pub counted : pushes ≡ length view.numbers
  pub within : pushes ≤ room
  pub reserved : room ≤ capacity
  pub first_out : flavor ≡ 0
  pub index : back ≤ pushes
