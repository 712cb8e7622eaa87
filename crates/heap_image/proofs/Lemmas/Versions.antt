-- What a version allows, by cases.
use Rattle.std.proofs.Common.{◌≡◌, ℕ, ◌≤◌, false, refl, arith, not}
use Rattle.std.proofs.lemmas.Bool.{true≢false}
use Rattle.std.specs.Str.{bytes_eq}
use Rattle.object_heap.specs.Version.{magic, has_roots, max_region_log, max_regions, max_words}
use Rattle.heap_image.specs.ImageText.{version_of_magic}
use Rattle.object_heap.specs.declared.version.Version.{Version}
use Rattle.object_heap.specs.declared.version.Version.TheVariants.{One, Two, Three}

-- no version allows more
pub log_few : (v : Version) (n : ℕ) → n ≤ max_region_log v → n ≤ 20
log_few One n l = omega arith
log_few Two n l = omega arith
log_few Three n l = l

pub words_few : (v : Version) (n : ℕ) → n ≤ max_words v → n ≤ 68719476736
words_few One n l = omega arith
words_few Two n l = omega arith
words_few Three n l = l

pub regions_few : (v : Version) (n : ℕ) → n ≤ max_regions v → n ≤ 1048576
regions_few One n l = omega arith
regions_few Two n l = omega arith
regions_few Three n l = l

-- the version without roots is the first, which allows few words
pub is_one : (v : Version) → has_roots v ≡ false → v ≡ One
is_one One h = refl
is_one Two h = absurd (true≢false h)
is_one Three h = absurd (true≢false h)

pub few_of_listed : (v : Version) (n : ℕ) → has_roots v ≡ false → n ≤ max_words v → n ≤ 4194304
few_of_listed One n h l = l
few_of_listed Two n h l = absurd (true≢false h)
few_of_listed Three n h l = absurd (true≢false h)

-- a magic names its version
pub magic_names : (v : Version) → version_of_magic (magic v) ≡ v
magic_names One = refl
magic_names Two = refl
magic_names Three = refl

pub known_magic : (v : Version) → not (bytes_eq (magic v) (magic (version_of_magic (magic v)))) ≡ false
known_magic One = refl
known_magic Two = refl
known_magic Three = refl
