-- What sending bytes says of a device. It is seen by the bytes that it took.
use Rattle.std.specs.Prelude.{◌≡◌, ℕ, ◌||◌, Bool, List, Option, Result, OnOk, is_err, replicate, take}
use Rattle.std.specs.Io.KnownBytes.{Appends}

-- the device took this number of zeros, or some of them before it failed
pub record GivesZeros {S A E : Type 0} (took : S → Option (List ℕ)) (has_failed : S → Bool) (old new : S) (count : ℕ) (result : Result A E) : Type 0 where
  pub zeros : OnOk result (Appends (took old) (took new) (replicate count 0))
  pub beginning : (n : ℕ) × Appends (took old) (took new) (take n (replicate count 0))
  pub failed : has_failed new ≡ (is_err result || has_failed old)
