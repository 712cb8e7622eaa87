-- What options request.
use Rattle.std.specs.Prelude.{◌≡◌, ℕ, true, Option}
use Rattle.std.specs.List.Sorted.{IsStrictlyIncreasing}
use Rattle.std.specs.Option.{unwrap_or}
use Rattle.object_heap.specs.HeapImage.{IsValid, heap_words, roots_of}
use Rattle.object_heap.specs.Version.{IsChosen, has_roots}
use Rattle.object_heap.specs.declared.version.Version.{Version}
use Rattle.heap_dump.specs.ImportFigures.{AreFiguresOf}
use Rattle.heap_dump.specs.Weak.{IsStrong, slots_of}
use Rattle.heap_dump.specs.declared.heap.draft.Imported.{Imported}
use Rattle.dump_objects.specs.declared.inventory.known_classes.Followed.{Followed}
use Rattle.heap_dump.specs.declared.options.Options.{Options}

-- the region log, 9 by default
abbrev pub requested_log : Options → ℕ
requested_log options = unwrap_or options.region_log 9

-- A valid image with ascending roots, of this region log and allowance, and its figures. It has the version that is requested;
-- without one it has version 2 where that allows the heap, else version 3. Its live objects are reached without its weak references.
pub record IsImageFor (requested : Option Version) (log allowed : ℕ) (references : Followed) (imported : Imported) : Type 0 where
  pub valid : IsValid imported.image
  pub rooted : has_roots imported.image.version ≡ true
  pub version : IsChosen requested log (heap_words imported.image) imported.image.version
  pub region_log : imported.image.region_log ≡ log
  pub allowance : imported.image.allowance ≡ allowed
  pub roots : IsStrictlyIncreasing (roots_of imported.image)
  pub figures : AreFiguresOf imported.image imported.figures
  pub followed : imported.figures.followed ≡ references
  pub strong : IsStrong imported.image (slots_of imported.weak.items)

-- what these options request
abbrev pub IsRequested : Options → Imported → Type 0
IsRequested options imported = IsImageFor options.version (requested_log options) options.allowance options.followed imported
