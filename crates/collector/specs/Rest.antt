-- Workers at rest: each has settled the regions that it claimed, holds none, and makes no more calls.
use Rattle.std.specs.Prelude.{◌≡◌, ◌≢◌, ℕ, ◌+◌, ◌<◌, ◌||◌, ◌==◌, IsTrue, Result, Ok, Err, Some, None, List, [], length, slice_index_or, map, All}
use Rattle.scheduler.specs.declared.entry.Entry.{Entry}
use Rattle.scheduler.specs.MoveTable.{MoveTable, to_fill}
use Rattle.scheduler.specs.State.{AllAreSettled}
use Rattle.scheduler.specs.History.{BeginsWith, IsLegal, calls_by, state_of}
use Rattle.claim_board.specs.declared.pass.Pass.{Pass}
use Rattle.claim_board.specs.declared.regions.region_board.RegionBoard.{RegionBoard}
use Rattle.claim_board.specs.Boards.{board_of, worker, caller, held}
use Rattle.claim_board.specs.Callers.{Caller, own}
use Rattle.std.specs.Box.{box_allocator}
use Rattle.claim_board.specs.RegionBoards.{moves, identity, original_words, spot, Holds}
use Rattle.claim_board.specs.Tickets.{IsUnused, IsTicketOf}
use Rattle.collector.specs.declared.workers.worker.Worker.{Worker}
use Rattle.collector.specs.declared.workers.end.End.{End}
use Rattle.collector.specs.declared.workers.end.End.TheVariants.{Stopped, Failed}
use Rattle.collector.specs.declared.workers.held_region.HeldRegion.{HeldRegion}

-- by these calls of its own, the worker has settled each region that it has claimed
abbrev pub HasSettled : ℕ → List Entry → Type 0
HasSettled worker calls = (r : ℕ) → (state_of calls).claimed r ≡ Some worker → IsTrue ((state_of calls).settled r)

abbrev pub IsTidy : Caller → Type 0
IsTidy c = HasSettled c.worker c.mine

-- the worker has settled each region that it has claimed, and its pass holds nothing
abbrev pub Rests : Pass → Type 0
Rests p = IsTidy (caller p) × (held p ≡ [])

-- the same worker, at rest
abbrev pub IsAtRest : Pass → Pass → Type 0
IsAtRest old new = (worker new ≡ worker old) × Rests new

-- The worker has settled all that it claimed but this region, which it may fill.
pub record HoldsRegion (b : RegionBoard) (regions : ℕ) (h : HeldRegion) (p : Pass) : Type 0 where
  pub unused : IsUnused h.ticket.ticket
  pub own_ticket : IsTicketOf (moves b) (caller p) h.ticket.ticket
  pub inside : h.ticket.ticket.region < regions
  pub rights : Holds b h.ticket p
  pub words : h.region.value ≡ original_words b h.ticket.ticket.region
  pub place : box_allocator h.region ≡ spot b h.ticket.ticket.region
  pub settled : (r : ℕ) → r ≢ h.ticket.ticket.region → (own (caller p)).claimed r ≡ Some (worker p) → IsTrue ((own (caller p)).settled r)

-- a worker with this result hasn't been refused a region itself, and is at rest but for a region in the result
abbrev pub Leaves : {X : Type 0} → RegionBoard → ℕ → Result X End → Pass → Type 0
Leaves b regions (Ok _) p = Rests p
Leaves b regions (Err (Stopped None)) p = Rests p
Leaves b regions (Err (Stopped (Some h))) p = HoldsRegion b regions h p
Leaves b regions (Err (Failed fault)) p = ⊥

-- the same worker, which leaves its regions so; nothing is said of one that was refused a region itself
abbrev pub Ends : {X : Type 0} → RegionBoard → ℕ → Result X End → Pass → Pass → Type 0
Ends b regions (Ok x) old new = (worker new ≡ worker old) × Leaves b regions (Ok x) new
Ends b regions (Err (Stopped h)) old new = (worker new ≡ worker old) × Leaves {X = Unit} b regions (Err (Stopped h)) new
Ends b regions (Err (Failed fault)) old new = Unit {0}

-- The same worker of the same board, which has claimed no other region in between, and has settled region r.
pub record Settles (r : ℕ) (old new : Caller) : Type 0 where
  pub board : new.board ≡ old.board
  pub worker : new.worker ≡ old.worker
  pub seen : BeginsWith new.seen old.seen
  pub settled : IsTrue ((state_of new.seen).settled r)
  pub claimed : (q : ℕ) → (own new).claimed q ≡ (own old).claimed q
  pub settled_too : (q : ℕ) → (own new).settled q ≡ ((q == r) || (own old).settled q)

-- The longer history has no further calls of other workers, and they are at rest.
pub record OthersRest (worker : ℕ) (seen log : List Entry) : Type 0 where
  pub no_more : (w : ℕ) → w ≢ worker → calls_by w log ≡ calls_by w seen
  pub settled : (w : ℕ) → w ≢ worker → HasSettled w (calls_by w seen)

-- in each legal history that goes on from what is seen now, with the other workers at rest since the past, all regions to fill are
-- settled
abbrev pub AreSettledAtRest : MoveTable → ℕ → ℕ → List Entry → List Entry → Type 0
AreSettledAtRest m workers worker past now = (log : List Entry) → IsLegal m workers log → BeginsWith log now → OthersRest worker past log → AllAreSettled m (state_of log)

-- the same of the regions to fill below this one
abbrev pub AreSettledBelow : MoveTable → ℕ → ℕ → List Entry → List Entry → ℕ → Type 0
AreSettledBelow m workers worker past now r =
    (log : List Entry) → IsLegal m workers log → BeginsWith log now → OthersRest worker past log → (q : ℕ) → q < r → IsTrue (to_fill m q) → IsTrue ((state_of log).settled q)

-- the next region is settled, too
abbrev pub SettlesNext : MoveTable → ℕ → ℕ → List Entry → List Entry → ℕ → Type 0
SettlesNext m workers worker old new r =
    (past : List Entry) → BeginsWith old past → AreSettledBelow m workers worker past old r → AreSettledBelow m workers worker past new (r + 1)

-- how all workers leave their regions
abbrev pub AllEnd : RegionBoard → ℕ → List Worker → List Worker → Type 0
AllEnd b regions old new = (k : ℕ) (v w : Worker) → k < length new → Ends b regions (slice_index_or new k w).result (slice_index_or old k v).seat.pass (slice_index_or new k w).seat.pass

-- the callers are the workers from 0 on, and none has made a call
pub record AreFresh (callers : List Caller) : Type 0 where
  pub numbered : (k : ℕ) (c : Caller) → k < length callers → (slice_index_or callers k c).worker ≡ k
  pub quiet : All (λ c. (c.seen ≡ []) × (c.mine ≡ [])) callers

-- each is the worker of its place, and leaves its regions so
pub record AreStopped (b : RegionBoard) (regions : ℕ) (workers : List Worker) : Type 0 where
  pub numbered : (k : ℕ) (w : Worker) → k < length workers → Rattle.claim_board.specs.Boards.worker (slice_index_or workers k w).seat.pass ≡ k
  pub left : All (λ w. Leaves b regions w.result w.seat.pass) workers

-- each caller is the worker of its place, and has settled what it claimed
pub record AreAtRest (callers : List Caller) : Type 0 where
  pub numbered : (k : ℕ) (c : Caller) → k < length callers → (slice_index_or callers k c).worker ≡ k
  pub tidy : All IsTidy callers

-- the history begins with all that each has seen, and its calls of each are the caller's own
abbrev pub HasAllCalls : List Entry → List Caller → Type 0
HasAllCalls log callers = All (λ c. BeginsWith log c.seen × (calls_by c.worker log ≡ c.mine)) callers

-- in each legal history with all calls of all workers, all regions to fill are settled
abbrev pub IsFilled : MoveTable → ℕ → List Caller → Type 0
IsFilled m workers callers = (log : List Entry) → IsLegal m workers log → HasAllCalls log callers → AllAreSettled m (state_of log)

abbrev pub callers_of : List Worker → List Caller
callers_of workers = map (λ w. caller w.seat.pass) workers

-- the passes are of this board
abbrev pub AreOf : RegionBoard → List Worker → Type 0
AreOf b workers = All (λ w. board_of w.seat.pass ≡ identity b) workers

-- the passes hold nothing
abbrev pub AreBare : List Worker → Type 0
AreBare workers = All (λ w. held w.seat.pass ≡ []) workers

-- the same workers with the same calls, of which each may have seen more
abbrev pub AreSame : List Caller → List Caller → Type 0
AreSame old new = (map (λ c. c.worker) new ≡ map (λ c. c.worker) old) × (map (λ c. c.mine) new ≡ map (λ c. c.mine) old)
