use Rattle.std.proofs.Common.{◌≡◌, length}
use Rattle.raw_region.proofs.Lemmas.Frames.{IsJoined}
use Rattle.raw_region.proofs.frame.Frame.end.Given as goal

abbrev pub invariant-loop-slot : goal.invariant-loop-slot
invariant-loop-slot l =
    (goal.iterator-loop-slot).can_next l.slot-iterator ×
    (goal.iterator-loop-slot).is_finite l.slot-iterator ×
    (l.index ≡ length l.yielded) ×
    IsJoined l.fn.self.root l.fn.self.size l.fn.self.count (length l.yielded) l.whole
