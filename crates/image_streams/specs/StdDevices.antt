-- The devices over std's readers and writers: what they wrap, and whether they have failed.
use Rattle.std.specs.Prelude.{Bool}
use Rattle.image_streams.specs.declared.intake.FromRead.{FromRead}
use Rattle.image_streams.specs.declared.outlet.ToWrite.{ToWrite}

abbrev pub reader_of : {R : Type 0} → FromRead R → R
reader_of intake = intake.reader

abbrev pub reader_has_failed : {R : Type 0} → FromRead R → Bool
reader_has_failed intake = intake.failed

abbrev pub writer_of : {W : Type 0} → ToWrite W → W
writer_of outlet = outlet.writer

abbrev pub writer_has_failed : {W : Type 0} → ToWrite W → Bool
writer_has_failed outlet = outlet.failed
