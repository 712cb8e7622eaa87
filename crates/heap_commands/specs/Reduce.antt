use Rattle.std.specs.Prelude.{◌≡◌, ◌⊎◌, ℕ, ◌≤◌, List, ◌++◌, Option, codes, decimal}
use Rattle.std.specs.Io.KnownBytes.{Appends}
use Rattle.object_heap.specs.HeapImage.{HeapImage, IsValid}
use Rattle.heap_image.specs.ImageText.{text}
use Rattle.heap_image.specs.Reading.{IsRead}
use Rattle.heap_maker.specs.HeapSize.{size_of_heap, size_text}
use Rattle.heap_maker.specs.Shrinking.{IsSmallerHeap}
use Rattle.command_support.specs.Command.{Command}

-- the line with the counts of a heap that a step has made
abbrev pub step_line : ℕ → HeapImage → List ℕ
step_line step image = codes "step " ++ (decimal step ++ (codes " " ++ (size_text (size_of_heap image) ++ codes "\n")))

-- the line with the counts of a heap that no step makes smaller
abbrev pub least_line : HeapImage → List ℕ
least_line image = codes "least " ++ (size_text (size_of_heap image) ++ codes "\n")

-- the second heap is smaller than the first and made by this step or a later one, or it is the first; the line says which
abbrev pub IsReduced : ℕ → HeapImage → HeapImage → List ℕ → Type 0
IsReduced from before after shown = (IsSmallerHeap before after × ((step : ℕ) × (from ≤ step) × (shown ≡ step_line step after)))
    ⊎ ((after ≡ before) × (shown ≡ least_line before))

-- the whole input was read and is the text of some image, and the text of such a heap was written
pub record IsReduction (from : ℕ) (left left' took took' : Option (List ℕ)) (shown : List ℕ) : Type 0 where
  pub before : HeapImage
  pub after : HeapImage
  pub read : IsRead before left left'
  pub valid : IsValid after
  pub reduced : IsReduced from before after shown
  pub written : Appends took took' (text after)

-- the line with the counts of some valid image
abbrev pub IsReductionLine : List ℕ → Type 0
IsReductionLine shown = (image : HeapImage) × IsValid image × (((step : ℕ) × (shown ≡ step_line step image)) ⊎ (shown ≡ least_line image))

abbrev pub reduce_command : Command
reduce_command = record { name = codes "reduce"; prints = IsReductionLine }
