-- The slots of a board: one for each pair of its moves, with the right by which the destination reads the source, and one for
-- each region. Or the board has none.
use Rattle.std.specs.Prelude.{◌≡◌, ◌⊎◌, ℕ, zero, suc, ◌+◌, ◌-◌, ◌<◌, nat_lt, Bool, true, false, cond, ◌==◌, ◌||◌, if◌then◌else◌, List, [], ◌∷◌, length, slice_index_or, slice_get, Option, None}
use mathlib.Core.Option.{some, none}
use mathlib.Core.Option as maybe
use lib.ListN.{get_elem?}
use Rattle.atomic_table.specs.Table.{State as Table, Me, Step, Act, keeps, takes, gives, chain, carried_after, rest}
use Rattle.scheduler.specs.declared.event.Event.{Event}
use Rattle.scheduler.specs.declared.event.Event.TheVariants.{Claim, Drain, Complete}
use Rattle.scheduler.specs.declared.reply.Reply.{Reply}
use Rattle.scheduler.specs.MoveTable.{MoveTable, region_count}
use Rattle.scheduler.specs.State.{State}
use Rattle.scheduler.specs.History.{state_of}
use Rattle.scheduler.specs.Shares.{share_is_home, region_is_home}
use Rattle.claim_board.specs.declared.rule.table_key.TableKey.{TableKey}
use Rattle.claim_board.specs.declared.rule.view.View.{View}
use Rattle.claim_board.specs.Views.{fresh}
use Rattle.claim_board.specs.Rule.{Kept, added}

-- The pair of this slot. The slots have the pairs in descending order. So of the slots that a claim takes, the highest last,
-- the region's is on top, then those by which the region is read, and then those of its sources, ascending.
abbrev pub pair_at : MoveTable → ℕ → ℕ × ℕ
pair_at m k = slice_index_or m.pairs (length m.pairs - suc k) (0, 0)

-- the slot of this region
abbrev pub region_slot : MoveTable → ℕ → ℕ
region_slot m r = length m.pairs + r

-- a slot for each pair, and then one for each region
abbrev pub all_slots : MoveTable → ℕ
all_slots m = length m.pairs + region_count m

-- the value of this slot is in it, and not with a worker
abbrev pub is_home : MoveTable → State → ℕ → Bool
is_home m now k = if nat_lt k (length m.pairs) then share_is_home now (pair_at m k).0 (pair_at m k).1 else region_is_home now (k - length m.pairs)

-- the pair has this region at an end, or the slot is the region's
abbrev pub touches : MoveTable → ℕ → ℕ → Bool
touches m r k = if nat_lt k (length m.pairs) then ((pair_at m k).0 == r || (pair_at m k).1 == r) else (k - length m.pairs == r)

-- the first value of each slot, and for each region the value that its slot has once it is filled
module _ {S : Type 0} (m : MoveTable) (first moved : ℕ → S) where
  -- a right stays the same; a region's value changes once it is filled
  abbrev pub value_at : State → ℕ → S
  value_at now k = if nat_lt k (length m.pairs) then first k else (if now.filled (k - length m.pairs) then moved (k - length m.pairs) else first k)

  -- what is in the slot
  abbrev pub home_at : State → ℕ → maybe.Option S
  home_at now k = if is_home m now k then some (value_at now k) else none

-- each of the n slots has its value, or is empty, as the state of the scheduler says
pub record HomesFit {S : Type 0} (m : MoveTable) (n : ℕ) (first moved : ℕ → S) (now : State) (homes : List (maybe.Option S)) : Type 0 where
  pub size : length homes ≡ n
  pub each : (k : ℕ) → k < n → get_elem? homes k ≡ some (home_at m first moved now k)

module _ {S : Type 0} (first : ℕ → S) where
  abbrev pub take_one : Bool → Act S → ℕ → Act S
  take_one true act k = chain act (takes k (first k))
  take_one false act k = act

  -- takes the slots below n that pass
  abbrev pub take_below : (ℕ → Bool) → ℕ → Act S
  take_below p zero = keeps
  take_below p (suc n) = take_one (p n) (take_below p n) n

  abbrev pub take_next : Bool → ℕ → List (ℕ × S) → List (ℕ × S)
  take_next true k c = (k, first k) ∷ c
  take_next false k c = c

  -- what is held once the slots below n that pass are taken, the highest first
  abbrev pub taken : (ℕ → Bool) → ℕ → List (ℕ × S)
  taken p zero = []
  taken p (suc n) = take_next (p n) n (taken p n)

-- A grant takes the region, the rights of its readers and those to its sources. A drain gives back the right that was taken
-- last, and a completion the region. With no slots nothing is taken or given.
abbrev pub act_of : {S : Type 0} → MoveTable → ℕ → (ℕ → S) → Event → ℕ → Act S
act_of m n first (Claim r) found = cond (found == 0) (take_below first (touches m r) n) keeps
act_of m n first (Drain d s) found = gives
act_of m n first (Complete r) found = gives
act_of m n first _ found = keeps

-- The rule: that of the words, and each slot has what the same history determines.
pub record AllKept {S : Type 0} (m : MoveTable) (n : ℕ) (first moved : ℕ → S) (workers : ℕ) (words : List ℕ) (homes : List (maybe.Option S)) (views : List View) : Type 0 where
  pub words_kept : Kept m workers words views
  pub fit : HomesFit m n first moved (state_of words_kept.log) homes

-- a step adds its entry, and moves what the entry says
abbrev pub moved_and_added : {S : Type 0} → MoveTable → ℕ → (ℕ → S) → ℕ → Event → (ℕ → Reply) → Step S → Me S View → ℕ → Me S View → Type 0
moved_and_added m n first workers event reply s v found after = added m workers event reply s v found after × (after.1 ≡ carried_after v.1 (act_of m n first event found))

-- the number of slots
abbrev pub slots : {X : Type 0} → TableKey X → ℕ
slots k = length k.values.value.items

-- the first value of this slot
abbrev pub first_of_slot : {X : Type 0} → TableKey X → ℕ → Option X
first_of_slot k i = slice_index_or k.values.value.items i None

-- the value of the region's slot once it is filled
abbrev pub moved_of : {X : Type 0} → TableKey X → ℕ → Option X
moved_of k r = slice_get k.moved.items r

-- what a step is told of the key
abbrev pub IsOfKey : {X : Type 0} → TableKey X → MoveTable → ℕ → ℕ → (ℕ → Option X) → Type 0
IsOfKey k m workers n first = (m ≡ k.moves) × (workers ≡ k.workers) × (n ≡ slots k) × (first ≡ first_of_slot k)

abbrev pub kept : {X : Type 0} → TableKey X → Table (Option X) View → Type 0
kept k t = AllKept k.moves (slots k) (first_of_slot k) (moved_of k) k.workers t.words t.homes t.views

abbrev pub all_workers : {X : Type 0} → TableKey X → View
all_workers k = record { note = []; holds = fresh 0 k.workers }

-- nothing is held, for there are no slots
abbrev pub HoldsNone : {X : Type 0} → TableKey X → List (ℕ × Option X) → Type 0
HoldsNone k held = (slots k ≡ 0) × (held ≡ [])

-- the right by which d reads s is on top, if there are slots
abbrev pub GivesRight : {X : Type 0} → TableKey X → ℕ → ℕ → List (ℕ × Option X) → Type 0
GivesRight k d s held =
    HoldsNone k held
    ⊎ ((i : ℕ) × (i < length k.moves.pairs) × (i < slots k) × (pair_at k.moves i ≡ (d, s)) × (held ≡ (i, first_of_slot k i) ∷ rest held))

-- the filled region is on top, if there are slots
abbrev pub GivesRegion : {X : Type 0} → TableKey X → ℕ → List (ℕ × Option X) → Type 0
GivesRegion k r held = HoldsNone k held ⊎ ((region_slot k.moves r < slots k) × (held ≡ (region_slot k.moves r, moved_of k r) ∷ rest held))
