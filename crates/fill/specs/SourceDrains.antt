-- The calls that a fill makes of the scheduler, and the sources that it reports.
use Rattle.std.specs.Prelude.{◌≡◌, ℕ, Bool, true, false, List, [], ◌∷◌, ◌++◌, map, filter}
use Rattle.std.specs.List.{range_with_len, FoldsTo}
use Rattle.scheduler.specs.declared.entry.Entry.{Entry}
use Rattle.scheduler.specs.declared.event.Event.TheVariants.{Drain, Complete}
use Rattle.scheduler.specs.declared.reply.Reply.TheVariants.{Done}
use Rattle.scheduler.specs.MoveTable.{MoveTable, region_count, reads}
use Rattle.scheduler.specs.History.{BeginsWith, entry}
use Rattle.claim_board.specs.declared.tokens.drained.Drained.{Drained}
use Rattle.claim_board.specs.declared.tokens.drained.Drained.TheVariants.{Last, NotLast}
use Rattle.claim_board.specs.Callers.{Caller}
use Rattle.claim_board.specs.Drains.{reply_of}

-- a source that was drained, and the result of the drain
pub record SourceDrain : Type 0 where
  pub source : ℕ
  pub answer : Drained

abbrev pub source_drain : ℕ → Drained → SourceDrain
source_drain s answer = record { source = s; answer = answer }

abbrev pub is_last : Drained → Bool
is_last Last = true
is_last NotLast = false

-- the other regions that have words for region d, ascending; and those of them below region `next`
abbrev pub other_sources : MoveTable → ℕ → List ℕ
other_sources m d = filter (reads m d) (range_with_len 0 (region_count m))

abbrev pub other_sources_below : MoveTable → ℕ → ℕ → List ℕ
other_sources_below m d next = filter (reads m d) (range_with_len 0 next)

abbrev pub sources_of : List SourceDrain → List ℕ
sources_of drains = map (λ x. x.source) drains

-- the sources whose drain returned Last
abbrev pub last_sources : List SourceDrain → List ℕ
last_sources drains = sources_of (filter (λ x. is_last x.answer) drains)

-- the drains for region d, as calls of this worker
abbrev pub drain_calls : ℕ → ℕ → List SourceDrain → List Entry
drain_calls worker d drains = map (λ x. entry worker (Drain d x.source) (reply_of x.answer)) drains

-- The same worker of the same board, after these further calls. What it sees now begins with all that it had seen.
pub record GainsAll (old new : Caller) (calls : List Entry) : Type 0 where
  pub board : new.board ≡ old.board
  pub worker : new.worker ≡ old.worker
  pub seen : BeginsWith new.seen old.seen
  pub mine : new.mine ≡ old.mine ++ calls

-- f was called with the source if its drain returned Last, and not called otherwise. A step of f is a call of it.
abbrev pub ReportsLast : {F : Type 0} → (F → ℕ → F → Type 0) → ℕ → Drained → F → F → Type 0
ReportsLast step s Last f f' = step f s f'
ReportsLast step s NotLast f f' = f ≡ f'

module _ {F : Type 0} (step : F → ℕ → F → Type 0) (m : MoveTable) (d : ℕ) where
  -- The caller drained the other sources of region d below `next` once each, in ascending order, and made no other call.
  -- f was called with exactly those whose drain returned Last, in this order.
  pub record HasDrained (next : ℕ) (old new : Caller) (f f' : F) : Type 0 where
    pub drains : List SourceDrain
    pub each : sources_of drains ≡ other_sources_below m d next
    pub reported : FoldsTo step f (last_sources drains) f'
    pub gains : GainsAll old new (drain_calls old.worker d drains)

  -- The same for all other sources of region d; then the caller completed d.
  pub record HasFilled (old new : Caller) (f f' : F) : Type 0 where
    pub drains : List SourceDrain
    pub each : sources_of drains ≡ other_sources m d
    pub reported : FoldsTo step f (last_sources drains) f'
    pub gains : GainsAll old new (drain_calls old.worker d drains ++ entry old.worker (Complete d) Done ∷ [])
