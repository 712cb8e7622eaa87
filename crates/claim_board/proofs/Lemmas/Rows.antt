-- The worked row of docs/SCHEDULER.md, "Claim words", computed from the definitions.
use Rattle.std.proofs.Common.{◌≡◌, ◌++◌, ℕ, true, false, List, [], ◌∷◌, map, refl}
use Rattle.std.specs.List.{range_with_len}
use Rattle.scheduler.specs.MoveTable.{MoveTable, table_of, region_count}
use Rattle.scheduler.specs.State.{State, opening, state_after, reply_to, unsettled}
use Rattle.scheduler.specs.declared.event.Event.{Event}
use Rattle.scheduler.specs.declared.event.Event.TheVariants.{Claim, Drain, Complete, Settle}
use Rattle.claim_board.specs.Rule.{word_of}

-- the words of all regions, and the remaining word
abbrev words_in : MoveTable → State → List ℕ
words_in m now = map (word_of m now) (range_with_len 0 (region_count m)) ++ unsettled m now ∷ []

-- the state after these calls of one worker
abbrev after_calls : MoveTable → State → List Event → State
after_calls m now [] = now
after_calls m now (e ∷ es) = after_calls m (state_after now 0 e (reply_to m now e)) es

-- the base heap's moves: region 3 isn't to be filled, and two regions read it
abbrev base : MoveTable
base = table_of (true ∷ true ∷ true ∷ false ∷ []) ((0, 1) ∷ (1, 2) ∷ (1, 3) ∷ (2, 3) ∷ [])

at_first : words_in base opening ≡ 0 ∷ 1 ∷ 1 ∷ 18 ∷ 3 ∷ []
at_first = refl

at_the_end : words_in base (after_calls base opening
    (Claim 0 ∷ Drain 0 1 ∷ Claim 1 ∷ Drain 1 2 ∷ Drain 1 3 ∷ Claim 2 ∷ Drain 2 3 ∷ Complete 0 ∷ Complete 1 ∷ Complete 2 ∷ Settle 0 ∷ Settle 1 ∷ Settle 2 ∷ []))
    ≡ 12 ∷ 12 ∷ 12 ∷ 16 ∷ 0 ∷ []
at_the_end = refl
