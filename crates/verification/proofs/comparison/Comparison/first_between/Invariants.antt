use Rattle.verification.specs.Searched.{HoldsFrom, IsItemAlike}
use Rattle.verification.proofs.comparison.Comparison.first_between.Given as goal

-- the items so far are alike
abbrev pub invariant-loop-i : goal.invariant-loop-i
invariant-loop-i l = HoldsFrom (IsItemAlike l.items l.self.before.now l.self.after.now) l.from l.i
