use Rattle.std.proofs.Common.{length}
use Rattle.heap_dump.proofs.transcription.slots.Slots.put_data.Given as goal

abbrev pub decreases-loop-first : goal.decreases-loop-first
decreases-loop-first l = length l.rest
