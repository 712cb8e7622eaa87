use Rattle.std.specs.Prelude.{◌&&◌, not}
use Rattle.summary.specs.Compaction.{is_reference_of, is_deferred}
use Rattle.history.proofs.Lemmas.Carrying.{AreFlagsOf}
use Rattle.history.proofs.machine.references.early_references.Given as goal

abbrev pub invariant-loop-a : goal.invariant-loop-a
invariant-loop-a l = AreFlagsOf l.image (λ a q. is_reference_of l.image a q && not (is_deferred l.image a)) l.a-index l.flags.items
