-- Why objects are not listed.
use Rattle.std.specs.Prelude.{◌≡◌, ℕ, ◌^◌, ◌≤◌, true, List}
use Rattle.object_heap.specs.HeapImage.{HeapImage, size_at}
use Rattle.object_heap.specs.Reachable.{is_listed}
use Rattle.coded_marking.specs.declared.list_error.ListError.{ListError}
use Rattle.coded_marking.specs.declared.list_error.ListError.TheVariants.{Memory, TooLarge}

-- where the error isn't that of memory, the object at its address is one of these, and has 2 ^ 32 words or more
abbrev pub IsTooLarge : HeapImage → List ℕ → ListError → Type 0
IsTooLarge image addresses Memory = Unit {0}
IsTooLarge image addresses (TooLarge a) = (is_listed addresses a ≡ true) × (2 ^ 32 ≤ size_at image a)
