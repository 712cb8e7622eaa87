-- The only worker of a board.
use Rattle.std.proofs.Common.{◌≡◌, ℕ, ◌<◌, List, [], ◌∷◌, ◌++◌, None, sym, ap, ◌∙◌, subst, arith}
use Rattle.std.specs.Prelude.{IsTrue}
use Rattle.scheduler.specs.declared.entry.Entry.{Entry}
use Rattle.scheduler.specs.declared.event.Event.{Event}
use Rattle.scheduler.specs.declared.event.Event.TheVariants.{Claim}
use Rattle.scheduler.specs.declared.reply.Reply.{Reply}
use Rattle.scheduler.specs.declared.reply.Reply.TheVariants.{Yes}
use Rattle.scheduler.specs.MoveTable.{MoveTable, IsMoveTable, to_fill}
use Rattle.scheduler.specs.State.{State, opening, state_after}
use Rattle.scheduler.specs.History.{IsLegal, AreSteps, calls_by, entry, state_of}
use Rattle.claim_board.specs.declared.pass.Pass.{Pass}
use Rattle.claim_board.specs.Boards.{AppendsTo, worker, mine, seen}
use Rattle.claim_board.specs.Rule.{Extends}

abbrev pub Granted : Type 0
Granted = (m : MoveTable) (workers : ℕ) (log : List Entry) (worker r : ℕ) (reply : Reply) → IsMoveTable m → IsLegal m workers (log ++ entry worker (Claim r) reply ∷ []) → IsTrue (to_fill m r) → (state_of log).claimed r ≡ None
    → ((q : ℕ) → q < r → IsTrue (to_fill m q) → IsTrue ((state_of log).filled q)) → reply ≡ Yes

abbrev pub OwnAll : Type 0
OwnAll = (m : MoveTable) (log : List Entry) → IsLegal m 1 log → calls_by 0 log ≡ log

-- the only worker has number 0, by any legal call of it
first_below : (m : MoveTable) (now : State) (log : List Entry) (w : ℕ) (event : Event) (reply : Reply) → AreSteps m 1 now (log ++ entry w event reply ∷ []) → w < 1
first_below m now [] w event reply steps = steps.0
first_below m now (x ∷ xs) w event reply steps = first_below m (state_after now x.worker x.event x.reply) xs w event reply steps.2

pub always_granted : Granted → OwnAll → (m : MoveTable) (old new : Pass) (r : ℕ) (reply : Reply) → IsMoveTable m → AppendsTo m 1 old new (Claim r) reply → IsTrue (to_fill m r) → (state_of (mine old)).claimed r ≡ None
    → ((q : ℕ) → q < r → IsTrue (to_fill m q) → IsTrue ((state_of (mine old)).filled q)) → reply ≡ Yes
always_granted law own m old new r reply table appends fills unclaimed below =
    law m 1 ext.before (worker old) r reply table legal fills (ap (λ l. (state_of l).claimed r) whole ∙ unclaimed) (λ q lt f. ap (λ l. (state_of l).filled q) whole ∙ below q lt f)
  where
    ext : Extends m 1 (worker old) (seen old) (mine old) (Claim r) reply (seen new) (mine new)
    ext = appends.history

    legal : IsLegal m 1 (ext.before ++ entry (worker old) (Claim r) reply ∷ [])
    legal = subst (IsLegal m 1) ext.seen_is ext.legal

    zero_ : worker old ≡ 0
    zero_ = let lt = first_below m opening ext.before (worker old) (Claim r) reply legal in omega arith

    whole : ext.before ≡ mine old
    whole = sym (own m ext.before ext.legal_before) ∙ (ap (λ k. calls_by k ext.before) (sym zero_) ∙ ext.calls)
