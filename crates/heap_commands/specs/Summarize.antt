use Rattle.std.specs.Prelude.{◌≡◌, ℕ, Bool, if◌then◌else◌, List, [], ◌++◌, Option, codes, decimal}
use Rattle.std.specs.Io.KnownBytes.{Consumes}
use Rattle.object_heap.specs.HeapImage.{HeapImage, IsValid}
use Rattle.heap_image.specs.ImageText.{text}
use Rattle.summary.specs.NewAddresses.{prefix_end, new_top}
use Rattle.summary.specs.Report.{report}
use Rattle.command_support.specs.Command.{Command}

-- the line with the names of the columns, where it is wanted
abbrev pub heading : Bool → List ℕ
heading wanted = if wanted then codes "  region  partial     live     dest    count   source\n" else []

-- the ends of the dense prefix and of the compacted heap, then perhaps the names of the columns, then the table of the regions
abbrev pub summary_of : Bool → HeapImage → List ℕ
summary_of headed image =
    codes "prefix " ++ (decimal (prefix_end image) ++ (codes " top " ++ (decimal (new_top image)
    ++ (codes "\n" ++ (heading headed ++ report image)))))

-- the summary of some valid image
abbrev pub IsSummary : List ℕ → Type 0
IsSummary shown = (headed : Bool) × (image : HeapImage) × IsValid image × (shown ≡ summary_of headed image)

-- the bytes read are the text of some valid image, and this is its summary
abbrev pub IsSummaryOf : Bool → Option (List ℕ) → Option (List ℕ) → List ℕ → Type 0
IsSummaryOf headed before after shown = (image : HeapImage) × IsValid image
    × Consumes before after (text image) × (shown ≡ summary_of headed image)

abbrev pub summary_command : Command
summary_command = record { name = codes "summary"; prints = IsSummary }
