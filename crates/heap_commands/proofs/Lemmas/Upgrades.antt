-- The version of an upgraded image.
use Rattle.std.proofs.Common.{◌≡◌, ◌≤◌, refl, arith}
use Rattle.object_heap.specs.HeapImage.{HeapImage}
use Rattle.heap_image.specs.Upgrade.{upgraded_to, upgraded_version}
use Rattle.object_heap.specs.Version.{number_of}
use Rattle.object_heap.specs.declared.version.Version.{Version}
use Rattle.object_heap.specs.declared.version.Version.TheVariants.{One, Two, Three}

one_or_later : (version : Version) → number_of version ≤ 1 → version ≡ One
one_or_later One few = refl
one_or_later Two few = let no : ⊥ = omega arith in absurd no
one_or_later Three few = let no : ⊥ = omega arith in absurd no

two_or_later : (version : Version) → number_of version ≤ 2 → upgraded_version version ≡ Two
two_or_later One few = refl
two_or_later Two few = refl
two_or_later Three few = let no : ⊥ = omega arith in absurd no

-- the upgrade of an image of this version or an earlier one has this version
pub version_asked : (version : Version) (image : HeapImage) → number_of image.version ≤ number_of version → (upgraded_to version image).version ≡ version
version_asked One image few = one_or_later image.version few
version_asked Two image few = two_or_later image.version few
version_asked Three image few = refl
