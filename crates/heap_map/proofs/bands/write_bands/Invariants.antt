use Rattle.std.proofs.Common.{◌≡◌, ◌++◌, take}
use Rattle.std.specs.Prelude.{flat_map, string_bytes}
use Rattle.heap_map.specs.Bands.{band_text}
use Rattle.heap_map.proofs.bands.write_bands.Given as goal

abbrev pub invariant-loop-band : goal.invariant-loop-band
invariant-loop-band l = string_bytes l.text ≡ string_bytes l.fn.text ++ flat_map band_text (take l.band-index l.bands)
