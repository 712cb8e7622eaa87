use Rattle.std.specs.Prelude.{ℕ, ◌==◌, if◌then◌else◌}
use Rattle.object_heap.specs.declared.version.Version.{Version}
use Rattle.object_heap.specs.declared.version.Version.TheVariants.{One, Two, Three}

-- the version that the command line calls by this number
abbrev pub version_numbered : ℕ → Version
version_numbered number = if number == 1 then One else (if number == 3 then Three else Two)
