-- The word machine: the scheduler's steps with a heap, for words that slide down.
use Rattle.std.specs.Prelude.{◌≡◌, ◌≢◌, ℕ, zero, suc, ◌+◌, ◌-◌, ◌*◌, ◌/◌, ◌%◌, ◌<◌, ◌≤◌, min, ◌==◌, nat_lt, if◌then◌else◌, IsTrue, Option, Some, None, List, [], ◌∷◌}
use Rattle.scheduler.specs.MoveTable.{MoveTable, reads, to_fill}
use Rattle.scheduler.specs.State.{State, state_after, IsStep}
use Rattle.scheduler.specs.declared.event.Event.{Event}
use Rattle.scheduler.specs.declared.event.Event.TheVariants.{Drain, Complete, Copy}
use Rattle.scheduler.specs.declared.entry.Entry.{Entry}

-- Which word goes where, and how it is written. The address a lies in the region a / size.
pub record Slide : Type 0 where
  pub size : ℕ
  -- each word below this address is to be written
  pub top : ℕ
  -- the old address of the word that goes to this new address; the word of a filler has none
  pub origin : ℕ → Option ℕ
  -- the value with which the word of this old address is written
  pub carried : ℕ → ℕ → ℕ
  -- the word of a filler at this address
  pub filler : ℕ → ℕ

-- Words slide down, and the table of moves has each pair of regions between which words go.
pub record IsSlideOf (m : MoveTable) (p : Slide) : Type 0 where
  pub sized : 0 < p.size
  pub down : (a x : ℕ) → a < p.top → p.origin a ≡ Some x → a ≤ x
  pub crossing : (a x : ℕ) → a < p.top → p.origin a ≡ Some x → a / p.size ≢ x / p.size → IsTrue (reads m (a / p.size) (x / p.size))
  pub filled : (a : ℕ) → a < p.top → IsTrue (to_fill m (a / p.size))

-- the word for an address, from the present heap
abbrev pub word_from : Slide → (ℕ → ℕ) → ℕ → Option ℕ → ℕ
word_from p heap a None = p.filler a
word_from p heap a (Some x) = p.carried x (heap x)

abbrev pub word_for : Slide → (ℕ → ℕ) → ℕ → ℕ
word_for p heap a = word_from p heap a (p.origin a)

-- the heap after each word below the top is written; those above are unchanged
abbrev pub moved_heap : Slide → (ℕ → ℕ) → ℕ → ℕ
moved_heap p start a = if nat_lt a p.top then word_for p start a else start a

-- the number of words of the region that are to be written
abbrev pub words_of : Slide → ℕ → ℕ
words_of p d = min p.size (p.top - d * p.size)

-- The state of the scheduler, the heap, and the number of words written in each region.
pub record Machine : Type 0 where
  pub known : State
  pub heap : ℕ → ℕ
  pub written : ℕ → ℕ

-- the lowest unwritten word of d is written, from the present word at its origin
abbrev pub write_one : Slide → ℕ → Machine → Machine
write_one p d w =
    record w {
      heap = λ b. if b == d * p.size + w.written d then word_for p w.heap b else w.heap b;
      written = λ r. if r == d then w.written r + 1 else w.written r;
    }

-- the n lowest unwritten words of d, ascending
abbrev pub write_words : Slide → ℕ → ℕ → Machine → Machine
write_words p d zero w = w
write_words p d (suc n) w = write_one p d (write_words p d n w)

abbrev pub IsWritten : Slide → Machine → ℕ → Type 0
IsWritten p w a = a % p.size < w.written (a / p.size)

-- all words that go from s to d are written
abbrev pub IsCopiedOut : Slide → Machine → ℕ → ℕ → Type 0
IsCopiedOut p w d s = (a x : ℕ) → a < p.top → a / p.size ≡ d → p.origin a ≡ Some x → x / p.size ≡ s → IsWritten p w a

-- what an event that the scheduler allows requires of the words
abbrev pub AllowsWords : Slide → Machine → Event → Type 0
AllowsWords p w (Drain d s) = IsCopiedOut p w d s
AllowsWords p w (Complete d) = w.written d ≡ words_of p d
AllowsWords p w (Copy d n) = w.written d + n ≤ words_of p d
AllowsWords p w _ = Unit {0}

-- the words after the event: only a copy writes any
abbrev pub copied : Slide → Machine → Event → Machine
copied p w (Copy d n) = write_words p d n w
copied p w _ = w

abbrev pub machine_after : Slide → Machine → Entry → Machine
machine_after p w e = record (copied p w e.event) { known = state_after w.known e.worker e.event e.reply }

abbrev pub machine_from : Slide → Machine → List Entry → Machine
machine_from p w [] = w
machine_from p w (e ∷ es) = machine_from p (machine_after p w e) es

-- the call is a step of the scheduler, and the words allow it
abbrev pub IsMachineStep : MoveTable → Slide → ℕ → Machine → Entry → Type 0
IsMachineStep m p workers w e =
    (e.worker < workers)
    × IsStep m w.known e.worker e.event e.reply (state_after w.known e.worker e.event e.reply)
    × AllowsWords p w e.event

-- each call is a step from the machine after the calls before it
abbrev pub AreMachineSteps : MoveTable → Slide → ℕ → Machine → List Entry → Type 0
AreMachineSteps m p workers w [] = Unit {0}
AreMachineSteps m p workers w (e ∷ es) = IsMachineStep m p workers w e × AreMachineSteps m p workers (machine_after p w e) es
