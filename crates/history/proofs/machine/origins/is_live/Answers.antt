use Rattle.std.proofs.Common.{arith}
use Rattle.history.proofs.machine.origins.is_live.Goals as goal

pub overflow_add-a : goal.overflow_add-a
overflow_add-a c = let few = c.marked_image_is_valid.ensures.limits.few_words in omega arith
