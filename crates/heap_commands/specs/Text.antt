use Rattle.std.specs.Prelude.{◌≡◌, ℕ, List, Option, codes}
use Rattle.std.specs.Io.KnownBytes.{Consumes}
use Rattle.object_heap.specs.HeapImage.{HeapImage, IsValid}
use Rattle.heap_image.specs.ImageText.{text}
use Rattle.heap_text.specs.Text.{text_of}
use Rattle.command_support.specs.Command.{Command}

-- the lines of some valid image
abbrev pub AreLines : List ℕ → Type 0
AreLines shown = (image : HeapImage) × IsValid image × (shown ≡ text_of image)

-- the bytes read are the text of some valid image, and these are its lines
abbrev pub AreLinesOf : Option (List ℕ) → Option (List ℕ) → List ℕ → Type 0
AreLinesOf before after shown = (image : HeapImage) × IsValid image
    × Consumes before after (text image) × (shown ≡ text_of image)

abbrev pub text_command : Command
text_command = record { name = codes "text"; prints = AreLines }
