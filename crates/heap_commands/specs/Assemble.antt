use Rattle.std.specs.Prelude.{◌≡◌, ℕ, List, ◌++◌, length, Option, IfSome, codes, decimal}
use Rattle.std.specs.Io.KnownBytes.{Appends}
use Rattle.object_heap.specs.HeapImage.{HeapImage, IsValid, heap_words, roots_of}
use Rattle.heap_image.specs.ImageText.{text}
use Rattle.heap_text.specs.Text.{text_of}
use Rattle.command_support.specs.Command.{Command}

-- the line with the numbers of words, roots and live objects of an image
abbrev pub count_line : HeapImage → List ℕ
count_line image = codes "words " ++ (decimal (heap_words image) ++ (codes " roots " ++ (decimal (length (roots_of image))
    ++ (codes " live " ++ (decimal (length image.live) ++ codes "\n")))))

-- The first device had the lines of a valid image, and the text of that image was written to the second. The counts of the
-- image are printed.
pub record IsAssembly (lines took took' : Option (List ℕ)) (shown : List ℕ) : Type 0 where
  pub image : HeapImage
  pub valid : IsValid image
  pub read : IfSome lines (λ bytes. bytes ≡ text_of image)
  pub written : Appends took took' (text image)
  pub printed : shown ≡ count_line image

-- the line of counts of some valid image
abbrev pub IsCountLine : List ℕ → Type 0
IsCountLine shown = (image : HeapImage) × IsValid image × (shown ≡ count_line image)

abbrev pub assemble_command : Command
assemble_command = record { name = codes "assemble"; prints = IsCountLine }
