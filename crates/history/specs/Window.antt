-- The buffer for a schedule's text as it comes from a device.
use Rattle.std.specs.Prelude.{◌≡◌, ℕ, ◌≤◌, ◌⊎◌, IsTrue, List, ◌∷◌, ◌++◌, Option, length, slice_range}
use Rattle.std.specs.Io.KnownBytes.{prepend_known}
use Rattle.history.specs.Reading.{is_without}
use Rattle.history.specs.declared.schedule.window.Window.{Window}

-- the unread bytes lie in the buffer
pub record IsInRange (w : Window) : Type 0 where
  pub ordered : w.start ≤ w.end
  pub within : w.end ≤ 8192

-- the unread bytes
abbrev pub unread : Window → List ℕ
unread w = slice_range w.bytes w.start w.end

-- the unread bytes and those that the device has left, if these are known
abbrev pub rest_of : Window → Option (List ℕ) → Option (List ℕ)
rest_of w left = prepend_known (unread w) left

-- the bytes have a newline or are more than a line can have
abbrev pub HoldLine : List ℕ → Type 0
HoldLine bytes = (64 ≤ length bytes) ⊎ ((front rest : List ℕ) × IsTrue (is_without 10 front) × (bytes ≡ front ++ 10 ∷ rest))
