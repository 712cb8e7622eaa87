-- Where the regions and the rights to read them are: in the scheduler, or with a worker. Each is where the state says.
use Rattle.std.specs.Prelude.{◌≡◌, ◌≢◌, ℕ, Bool, true, false, ◌&&◌, ◌||◌, ◌==◌, is_none, IsTrue}
use Rattle.scheduler.specs.MoveTable.{MoveTable, reads}
use Rattle.scheduler.specs.State.{State}
use Rattle.scheduler.specs.declared.event.Event.{Event}
use Rattle.scheduler.specs.declared.event.Event.TheVariants.{Claim, Drain, Complete}
use Rattle.scheduler.specs.declared.reply.Reply.{Reply}
use Rattle.scheduler.specs.declared.reply.Reply.TheVariants.{Yes}

-- The right of region d to read region s is in the scheduler, unless the worker of d reads with it or the worker of s writes
-- the region.
abbrev pub share_is_home : State → ℕ → ℕ → Bool
share_is_home now d s = is_none (now.claimed s) && (is_none (now.claimed d) || now.drained d s)

-- The region is in the scheduler, unless a worker fills it.
abbrev pub region_is_home : State → ℕ → Bool
region_is_home now r = is_none (now.claimed r) || now.filled r

-- A grant takes a region, the rights to read it, and the rights to read its sources.
pub record Takes (m : MoveTable) (r : ℕ) (old new : State) : Type 0 where
  pub region : (region_is_home old r ≡ true) × (region_is_home new r ≡ false)
  pub regions : (q : ℕ) → q ≢ r → region_is_home new q ≡ region_is_home old q
  -- all rights to read it were in the scheduler: nobody reads it
  pub readers : (d : ℕ) → IsTrue (reads m d r) → (share_is_home old d r ≡ true) × (share_is_home new d r ≡ false)
  pub sources : (s : ℕ) → IsTrue (reads m r s) → (share_is_home old r s ≡ true) × (share_is_home new r s ≡ false)
  pub others : (d s : ℕ) → d ≢ r → s ≢ r → share_is_home new d s ≡ share_is_home old d s

-- A drain puts one right to read back.
pub record PutsBack (d s : ℕ) (old new : State) : Type 0 where
  pub regions : (q : ℕ) → region_is_home new q ≡ region_is_home old q
  pub share : (share_is_home old d s ≡ false) × (share_is_home new d s ≡ true)
  pub others : (e t : ℕ) → ((e == d) && (t == s)) ≡ false → share_is_home new e t ≡ share_is_home old e t

-- A completion puts one region back.
pub record PutsRegion (r : ℕ) (old new : State) : Type 0 where
  pub region : (region_is_home old r ≡ false) × (region_is_home new r ≡ true)
  pub regions : (q : ℕ) → q ≢ r → region_is_home new q ≡ region_is_home old q
  pub shares : (d s : ℕ) → share_is_home new d s ≡ share_is_home old d s

-- nothing is taken or put back
pub record MovesNone (old new : State) : Type 0 where
  pub regions : (q : ℕ) → region_is_home new q ≡ region_is_home old q
  pub shares : (d s : ℕ) → share_is_home new d s ≡ share_is_home old d s

-- what an event with its reply moves
abbrev pub MovesShares : MoveTable → State → State → Event → Reply → Type 0
MovesShares m old new (Claim r) Yes = Takes m r old new
MovesShares m old new (Drain d s) reply = PutsBack d s old new
MovesShares m old new (Complete r) reply = PutsRegion r old new
MovesShares m old new _ reply = MovesNone old new
