-- A worker's counts of its own calls.
use Rattle.std.specs.Prelude.{◌≡◌, ℕ, ◌+◌, ◌<◌, Bool, false, ◌==◌, cond, List, length, slice_index_or, count_by}
use Rattle.scheduler.specs.declared.event.Event.{Event}
use Rattle.scheduler.specs.declared.event.Event.TheVariants.{Complete}
use Rattle.scheduler.specs.declared.entry.Entry.{Entry}
use Rattle.scheduler.specs.History.{is_grant}
use Rattle.board_sweep.specs.declared.tally.Tally.{Tally}

-- the event completes the region
abbrev pub is_completion : ℕ → Event → Bool
is_completion r (Complete d) = r == d
is_completion r _ = false

abbrev pub completes : ℕ → Entry → Bool
completes r e = is_completion r e.event

-- The later calls add these claims and completions of the region to the earlier ones, and none of any other region.
pub record Adds (region : ℕ) (tally : Tally) (old new : List Entry) : Type 0 where
  pub claims : (r : ℕ) → count_by (is_grant r) new ≡ count_by (is_grant r) old + cond (r == region) tally.claims 0
  pub completions : (r : ℕ) → count_by (completes r) new ≡ count_by (completes r) old + cond (r == region) tally.completions 0

abbrev pub none : Tally
none = record { claims = 0; completions = 0 }

abbrev pub claims_in : List Tally → ℕ → ℕ
claims_in tallies r = (slice_index_or tallies r none).claims

abbrev pub completions_in : List Tally → ℕ → ℕ
completions_in tallies r = (slice_index_or tallies r none).completions

-- for each of the first regions, the numbers of its claims and completions in these calls
pub record AreTallies (regions : ℕ) (calls : List Entry) (tallies : List Tally) : Type 0 where
  pub each : length tallies ≡ regions
  pub claims : (r : ℕ) → r < regions → claims_in tallies r ≡ count_by (is_grant r) calls
  pub completions : (r : ℕ) → r < regions → completions_in tallies r ≡ count_by (completes r) calls
