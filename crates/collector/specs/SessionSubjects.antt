-- What a session is made of.
use Rattle.std.specs.Prelude.{None, Some}
use Rattle.collector.specs.SessionIds.{SessionHeap}
use Rattle.collector.specs.declared.session.session_id.Subject.{Subject}
use Rattle.collector.specs.declared.session.session_id.Subject.TheVariants.{Image, Slide}

-- what it compacts
abbrev pub heap_of_subject : Subject → SessionHeap
heap_of_subject (Image image) = record { image = image.value; held = None }
heap_of_subject (Slide slide regions) = record { image = slide.value; held = Some regions.value.items }
