use Rattle.std.proofs.Common.{vec_len}
use Rattle.dump_objects.proofs.inventory.classes.Classes.resolve.Given as goal

abbrev pub decreases-loop-below : goal.decreases-loop-below
decreases-loop-below l = vec_len l.path
