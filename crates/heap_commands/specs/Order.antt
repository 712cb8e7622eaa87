use Rattle.std.specs.Prelude.{◌≡◌, ℕ, List, ◌++◌, Option, codes}
use Rattle.std.specs.Io.KnownBytes.{Consumes}
use Rattle.object_heap.specs.HeapImage.{HeapImage, IsValid}
use Rattle.heap_image.specs.ImageText.{text}
use Rattle.summary.specs.NewAddresses.{new_top}
use Rattle.work_order.specs.Chains.{IsLongestChain}
use Rattle.work_order.specs.WorkOrder.{order_text}
use Rattle.command_support.specs.Command.{Command}

-- the line with the words of the longest chain of an image, those of the whole heap, and what follows from both
abbrev pub IsOrderLine : HeapImage → List ℕ → Type 0
IsOrderLine image shown = (chain : ℕ) × IsLongestChain image chain
    × (shown ≡ order_text (new_top image) chain ++ codes "\n")

-- the line of some valid image
abbrev pub IsOrder : List ℕ → Type 0
IsOrder shown = (image : HeapImage) × IsValid image × IsOrderLine image shown

-- the bytes read are the text of some valid image, and this is its line
abbrev pub IsOrderOf : Option (List ℕ) → Option (List ℕ) → List ℕ → Type 0
IsOrderOf before after shown = (image : HeapImage) × IsValid image
    × Consumes before after (text image) × IsOrderLine image shown

abbrev pub order_command : Command
order_command = record { name = codes "order"; prints = IsOrder }
