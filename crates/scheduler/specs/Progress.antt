use Rattle.std.specs.Prelude.{ℕ, Bool, true, false, Option, Some, None}
use Rattle.scheduler.specs.declared.scheduler.progress.Progress.{Progress}
use Rattle.scheduler.specs.declared.scheduler.progress.Progress.TheVariants.{Unclaimed, Filling, Completed, Settled}

-- the worker that claimed the region
abbrev pub claimant_of : Progress → Option ℕ
claimant_of Unclaimed = None
claimant_of (Filling worker) = Some worker
claimant_of (Completed worker) = Some worker
claimant_of (Settled worker) = Some worker

abbrev pub is_filled : Progress → Bool
is_filled Unclaimed = false
is_filled (Filling worker) = false
is_filled (Completed worker) = true
is_filled (Settled worker) = true

abbrev pub is_settled : Progress → Bool
is_settled Unclaimed = false
is_settled (Filling worker) = false
is_settled (Completed worker) = false
is_settled (Settled worker) = true
