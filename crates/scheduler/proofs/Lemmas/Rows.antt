-- Worked rows of docs/SCHEDULER.md, computed from the definitions.
use Rattle.std.proofs.Common.{◌≡◌, true, false, List, [], ◌∷◌, refl}
use Rattle.scheduler.specs.MoveTable.{MoveTable, table_of, readers_of}
use Rattle.scheduler.specs.State.{State, opening, state_after, reply_to}
use Rattle.scheduler.specs.declared.event.Event.{Event}
use Rattle.scheduler.specs.declared.event.Event.TheVariants.{Claim, Look, Drain, Complete, Settle, Poll}
use Rattle.scheduler.specs.declared.reply.Reply.{Reply}
use Rattle.scheduler.specs.declared.reply.Reply.TheVariants.{Yes, No, Outside, Claimed, Last, NotLast, Done, All, More}

-- the replies of the definitions to these calls of one worker, one after another
abbrev replies_from : MoveTable → State → List Event → List Reply
replies_from m now [] = []
replies_from m now (e ∷ es) = reply_to m now e ∷ replies_from m (state_after now 0 e (reply_to m now e)) es

-- three regions, all to be filled
abbrev three : MoveTable
three = table_of (true ∷ true ∷ true ∷ []) ((0, 1) ∷ (1, 2) ∷ [])

one_worker : replies_from three opening (Claim 1 ∷ Claim 0 ∷ Drain 0 1 ∷ Claim 1 ∷ Drain 1 2 ∷ Claim 2 ∷ Complete 0 ∷ Complete 1 ∷ Complete 2 ∷ Settle 0 ∷ Settle 1 ∷ Settle 2 ∷ [])
    ≡ No ∷ Yes ∷ Last ∷ Yes ∷ Last ∷ Yes ∷ Done ∷ Done ∷ Done ∷ More ∷ More ∷ All ∷ []
one_worker = refl

-- the base heap's moves: region 3 isn't to be filled, and two regions read it
abbrev base : MoveTable
base = table_of (true ∷ true ∷ true ∷ false ∷ []) ((0, 1) ∷ (1, 2) ∷ (1, 3) ∷ (2, 3) ∷ [])

base_readers : readers_of base 3 ≡ 2
base_readers = refl

one_pass : replies_from base opening
    (Look 3 ∷ Claim 0 ∷ Claim 1 ∷ Drain 0 1 ∷ Claim 1 ∷ Look 0 ∷ Drain 1 2 ∷ Drain 1 3 ∷ Claim 2 ∷ Drain 2 3 ∷ Look 3 ∷ Claim 3 ∷ Complete 0 ∷ Complete 1 ∷ Complete 2 ∷ Settle 0 ∷ Settle 1 ∷ Poll ∷ Settle 2 ∷ Poll ∷ [])
    ≡ Outside 2 ∷ Yes ∷ No ∷ Last ∷ Yes ∷ Claimed ∷ Last ∷ NotLast ∷ Yes ∷ Last ∷ Outside 0 ∷ No ∷ Done ∷ Done ∷ Done ∷ More ∷ More ∷ More ∷ All ∷ All ∷ []
one_pass = refl
