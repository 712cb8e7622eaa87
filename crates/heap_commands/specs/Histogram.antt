-- The histogram of the classes of an imported image.
use Rattle.std.specs.Prelude.{◌≡◌, ℕ, ◌+◌, ◌*◌, List, [], ◌∷◌, ◌++◌, take, codes, decimal}
use Rattle.std.specs.Fmt.{format_spec, styled_decimal}
use Rattle.object_heap.specs.HeapImage.{HeapImage, heap_words}
use Rattle.heap_dump.specs.ClassNames.{name_of}
use Rattle.heap_dump.specs.Listing.{AreObjectsOf}
use Rattle.heap_dump.specs.Totals.{AreDeadWords, IsRanking, held, sums_of}
use Rattle.dump_objects.specs.declared.inventory.known_classes.Followed.{Followed}
use Rattle.dump_objects.specs.declared.inventory.known_classes.Followed.TheVariants.{All, StrongAndSoft, Strong}
use Rattle.heap_dump.specs.declared.listing.class_names.ClassNames.{ClassNames}
use Rattle.heap_dump.specs.declared.dead_words.DeadWords.{DeadWords}
use Rattle.heap_dump.specs.declared.figures.ImportFigures.{ImportFigures}
use Rattle.heap_dump.specs.declared.listing.ListedObject.{ListedObject}
use Rattle.heap_dump.specs.declared.totals.ClassTotals.{ClassTotals}
use Rattle.heap_dump.specs.declared.totals.Totals.{Totals}

-- a number, right-aligned in `width` columns
abbrev pub in_columns : ℕ → ℕ → List ℕ
in_columns width n = styled_decimal (format_spec 32 3 0 width 18446744073709551615) n

-- words in bytes
abbrev pub bytes_of : ℕ → ℕ
bytes_of words = held (words * 8)

-- a space and a number
abbrev pub next_column : ℕ → List ℕ
next_column n = codes " " ++ in_columns 13 n

-- live objects and their bytes, then dead objects and theirs, then the bytes of all in the machine
abbrev pub columns : Totals → List ℕ
columns totals = next_column totals.live_objects ++ (next_column (bytes_of totals.live_words)
    ++ (next_column totals.dead_objects ++ (next_column (bytes_of totals.dead_words) ++ next_column (bytes_of totals.machine_words))))

module _ (names : ClassNames) where
  -- the line of a class, the n-th
  abbrev pub row : ℕ → ClassTotals → List ℕ
  row n class = in_columns 4 n ++ (codes ":" ++ (columns class.totals ++ (codes "  " ++ (name_of names class.class ++ codes "\n"))))

  -- the lines of classes, of which the first is the n-th
  abbrev pub rows_from : ℕ → List ClassTotals → List ℕ
  rows_from n [] = []
  rows_from n (class ∷ others) = row n class ++ rows_from (n + 1) others

-- the line of a part of the dead words
abbrev pub part : ℕ → List ℕ → List ℕ
part words meaning = codes "  " ++ (in_columns 13 (bytes_of words) ++ (codes " " ++ (meaning ++ codes "\n")))

-- all words that belong to no live object
abbrev pub all_dead : DeadWords → ℕ
all_dead dead = held (held (held (dead.objects + dead.padding) + dead.gaps) + dead.end)

-- their bytes, all and by parts
abbrev pub dead_text : DeadWords → List ℕ
dead_text dead = (codes "dead bytes " ++ (decimal (bytes_of (all_dead dead)) ++ codes "\n"))
    ++ (part dead.objects (codes "objects that no root reaches")
    ++ (part dead.padding (codes "padding: the machine's larger headers and alignment")
    ++ (part dead.gaps (codes "wider gaps: free space, or objects that the dump leaves out")
    ++ part dead.end (codes "after the last object"))))

-- what counts as live, where these references are followed
abbrev pub followed_text : Followed → List ℕ
followed_text All = codes "live counts what only weak, soft, phantom or final references lead to, which --weak leaves out\n"
followed_text StrongAndSoft = codes "live doesn't count what only weak, phantom or final references lead to\n"
followed_text Strong = codes "live doesn't count what only weak, soft, phantom or final references lead to\n"

-- whose bytes the columns have
abbrev pub bytes_note : List ℕ
bytes_note = codes "live and dead bytes are those in the image, machine bytes those in the Java machine, as jmap -histo has them\n"

-- what two figures mean, which objects count as live, and whose bytes the columns have
abbrev pub notes_text : ImportFigures → List ℕ
notes_text figures =
    (codes "dropped-gaps " ++ (decimal figures.dropped_gaps ++ codes ": gaps of more than 512 words, which the image leaves out\n"))
    ++ ((codes "unresolved " ++ (decimal figures.unresolved ++ codes ": references and roots to objects that are not in the dump; they are null in the image\n"))
    ++ (followed_text figures.followed ++ bytes_note))

-- the names of the columns, and the rows of these classes
abbrev pub classes_text : ClassNames → List ClassTotals → List ℕ
classes_text names classes =
    codes " num  live objects    live bytes  dead objects    dead bytes machine bytes  class\n" ++ rows_from names 1 classes

-- the sums of all objects, the dead words, and the notes
abbrev pub sums_text : Totals → DeadWords → ImportFigures → List ℕ
sums_text totals dead figures = codes "total" ++ (columns totals ++ (codes "\n" ++ (dead_text dead ++ notes_text figures)))

-- the histogram of the objects of an image with these figures, with at most `most` classes
pub record IsHistogram (image : HeapImage) (figures : ImportFigures) (most : ℕ) (shown : List ℕ) : Type 0 where
  pub objects : List ListedObject
  pub listed : AreObjectsOf image objects
  pub names : ClassNames
  pub ranked : List ClassTotals
  pub ranking : IsRanking objects ranked
  pub dead : DeadWords
  pub unused : AreDeadWords names objects (heap_words image) dead
  pub printed : shown ≡ classes_text names (take most ranked) ++ sums_text (sums_of objects) dead figures
