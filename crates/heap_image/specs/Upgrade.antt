-- An image as one of a later version.
use Rattle.std.specs.Prelude.{◌+◌, map, Some}
use Rattle.object_heap.specs.HeapImage.{HeapImage, roots_or}
use Rattle.object_heap.specs.declared.version.Version.{Version}
use Rattle.object_heap.specs.declared.version.Version.TheVariants.{One, Two, Three}

-- version 2 in place of version 1
abbrev pub upgraded_version : Version → Version
upgraded_version One = Two
upgraded_version Two = Two
upgraded_version Three = Three

-- If there are no roots, version 2 and a root to each live object, in their order. All else stays.
abbrev pub upgraded : HeapImage → HeapImage
upgraded image = record image { version = upgraded_version image.version; roots = Some (roots_or (map (λ a. a + 1) image.live) image.roots) }

-- the same image in version 3
abbrev pub in_version_three : HeapImage → HeapImage
in_version_three image = record image { version = Three }

-- the image in this version, or in its own if that is later, with roots where the version has them
abbrev pub upgraded_to : Version → HeapImage → HeapImage
upgraded_to One image = image
upgraded_to Two image = upgraded image
upgraded_to Three image = in_version_three (upgraded image)
