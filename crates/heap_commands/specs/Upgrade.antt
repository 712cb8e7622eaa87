use Rattle.std.specs.Prelude.{◌≡◌, ℕ, List, ◌++◌, Option, codes, decimal, length}
use Rattle.std.specs.Io.KnownBytes.{Appends}
use Rattle.object_heap.specs.HeapImage.{HeapImage, IsValid, roots_of}
use Rattle.heap_image.specs.ImageText.{text}
use Rattle.image_streams.specs.Outgoing.{TakesBeginning}
use Rattle.heap_image.specs.Reading.{IsRead}
use Rattle.heap_image.specs.Upgrade.{upgraded_to}
use Rattle.object_heap.specs.declared.version.Version.{Version}
use Rattle.command_support.specs.Command.{Command}

-- the line with the number of roots of an image
abbrev pub roots_line : HeapImage → List ℕ
roots_line image = codes "roots " ++ (decimal (length (roots_of image)) ++ codes "\n")

-- The whole input was read and is the text of some image. The text of its upgrade was written, which has this version, and the
-- number of its roots is printed.
abbrev pub IsUpgrading : Version → Option (List ℕ) → Option (List ℕ) → Option (List ℕ) → Option (List ℕ) → List ℕ → Type 0
IsUpgrading version left left' took took' shown = (image : HeapImage) × IsRead image left left'
    × ((upgraded_to version image).version ≡ version)
    × Appends took took' (text (upgraded_to version image)) × (shown ≡ roots_line (upgraded_to version image))

-- the whole input was read, it is the text of some image, and a prefix of the text of its upgrade to this version was written
pub record IsBegun (version : Version) (left left' took took' : Option (List ℕ)) : Type 0 where
  pub image : HeapImage
  pub read : IsRead image left left'
  pub written : TakesBeginning took took' (text (upgraded_to version image))

-- the line with the number of roots of some valid image after its upgrade to some version
abbrev pub IsRootCount : List ℕ → Type 0
IsRootCount shown = (version : Version) × (image : HeapImage) × IsValid image × (shown ≡ roots_line (upgraded_to version image))

abbrev pub upgrade_command : Command
upgrade_command = record { name = codes "upgrade"; prints = IsRootCount }
