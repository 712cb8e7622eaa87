-- Each event takes and puts back what is there.
use Rattle.std.proofs.Common.{◌≡◌, ◌≢◌, ℕ, Bool, true, false, List, [], ◌∷◌, ◌++◌, Option, Some, None, refl, sym, ap, ◌∙◌, inl, inr, ◌⊎◌}
use Rattle.std.specs.Prelude.{◌||◌, not, is_none}
use Rattle.std.proofs.lemmas.Bool.{and_parts, eq-eqb, ne_eqb, not-true, not-false, false≢true, false_from_ne_true}
use Rattle.scheduler.specs.MoveTable.{MoveTable, IsMoveTable, reads}
use Rattle.scheduler.specs.State.{State, opening, is_pending, state_after, IsStep}
use Rattle.scheduler.specs.History.{state_of, IsLegal, IsReached, entry}
use Rattle.scheduler.specs.Shares.{Takes, PutsBack, PutsRegion, MovesShares}
use Rattle.scheduler.specs.declared.event.Event.{Event}
use Rattle.scheduler.specs.declared.event.Event.TheVariants.{Claim, Look, Drain, Complete, Settle, Poll, Copy}
use Rattle.scheduler.specs.declared.reply.Reply.{Reply}
use Rattle.scheduler.specs.declared.reply.Reply.TheVariants.{Yes}
use Rattle.scheduler.specs.declared.entry.Entry.{Entry}
use Rattle.scheduler.proofs.Lemmas.Logs.{AreSteps-front, AreSteps-rest}
use Rattle.scheduler.proofs.Lemmas.Pairs.{slide_of}
use Rattle.scheduler.proofs.Lemmas.Reaches.{MayClaim, grant_tells, legal_reached}

or_true : (b : Bool) → (b || true) ≡ true
or_true true = refl
or_true false = refl

not_claimed : (o : Option ℕ) → ((w : ℕ) → o ≡ Some w → ⊥) → o ≡ None
not_claimed None no_one = refl
not_claimed (Some w) no_one = absurd (no_one w refl)

-- a pair that isn't drained is pending, if the table has it
pending_if : (m : MoveTable) (now : State) (d s : ℕ) → reads m d s ≡ true → now.drained d s ≡ false → is_pending m now d s ≡ true
pending_if m now d s has undrained = rw (has, undrained) refl

drained_where_read : (m : MoveTable) (now : State) (d s : ℕ) → is_pending m now d s ≡ false → reads m d s ≡ true → now.drained d s ≡ true
drained_where_read m now d s idle has = not-false (now.drained d s) (rw has at idle)

takes_all : (m : MoveTable) (now : State) (worker r : ℕ) → IsMoveTable m → IsReached m now → MayClaim m now r → Takes m r now (state_after now worker (Claim r) Yes)
takes_all m now worker r table reached may =
    record {
      region = (rw may.unclaimed refl, rw (eq-eqb r r refl, unfilled) refl);
      regions = λ q apart. rw (ne_eqb q r apart) refl;
      readers = λ d has. (
        rw (may.unclaimed, drained_where_read m now d r (may.idle d) has) (or_true (is_none (now.claimed d))),
        rw (eq-eqb r r refl) refl,
      );
      sources = λ s has. let apart = below s has in (
        rw (source_free s has, may.unclaimed) refl,
        rw (ne_eqb s r apart, eq-eqb r r refl, source_free s has, undrained s) refl,
      );
      others = λ d s d_r s_r. rw (ne_eqb d r d_r, ne_eqb s r s_r) refl;
    }
  where
    unfilled : now.filled r ≡ false
    unfilled = false_from_ne_true (now.filled r) (λ e. reached.filled_claimed r e may.unclaimed)

    undrained : (s : ℕ) → now.drained r s ≡ false
    undrained s = false_from_ne_true (now.drained r s) (λ e. reached.drained_claimed r s e may.unclaimed)

    below : (s : ℕ) → reads m r s ≡ true → s ≢ r
    below s has e = let slide = slide_of m r s table has in let lt = slide.down in omega Rattle.std.proofs.Common.arith

    source_free : (s : ℕ) → reads m r s ≡ true → now.claimed s ≡ None
    source_free s has = not_claimed (now.claimed s) (λ w own. false≢true (sym (reached.claimed_read r s w own) ∙ pending_if m now r s has (undrained s)))

puts_back : (m : MoveTable) (now : State) (worker d s : ℕ) (reply : Reply) → IsReached m now → now.claimed d ≡ Some worker → is_pending m now d s ≡ true → PutsBack d s now (state_after now worker (Drain d s) reply)
puts_back m now worker d s reply reached own pending =
    record {
      regions = λ q. refl;
      share = (rw (free, own, undrained) refl, rw (free, eq-eqb d d refl, eq-eqb s s refl) (or_true (is_none (now.claimed d))));
      others = λ e t other. rw other refl;
    }
  where
    undrained : now.drained d s ≡ false
    undrained = not-true (now.drained d s) (and_parts (reads m d s) (not (now.drained d s)) pending).1

    free : now.claimed s ≡ None
    free = not_claimed (now.claimed s) (λ w held. false≢true (sym (reached.claimed_read d s w held) ∙ pending))

puts_region : (m : MoveTable) (now : State) (worker r : ℕ) (reply : Reply) → now.claimed r ≡ Some worker → now.filled r ≡ false → PutsRegion r now (state_after now worker (Complete r) reply)
puts_region m now worker r reply own unfilled =
    record {
      region = (rw (own, unfilled) refl, rw (own, eq-eqb r r refl) refl);
      regions = λ q apart. rw (ne_eqb q r apart) refl;
      shares = λ d s. refl;
    }

moves_step : (m : MoveTable) (now : State) (worker : ℕ) (event : Event) (reply : Reply) → IsMoveTable m → IsReached m now → IsStep m now worker event reply (state_after now worker event reply)
    → MovesShares m now (state_after now worker event reply) event reply
moves_step m now worker (Claim r) Yes table reached step = takes_all m now worker r table reached (grant_tells m now (Claim r) Yes r step.replied (rw (eq-eqb r r refl) refl))
moves_step m now worker (Claim r) reply table reached step = record { regions = λ q. refl; shares = λ d s. refl }
moves_step m now worker (Look r) reply table reached step = record { regions = λ q. refl; shares = λ d s. refl }
moves_step m now worker (Drain d s) reply table reached step = puts_back m now worker d s reply reached step.allowed.0.0 step.allowed.1
moves_step m now worker (Complete r) reply table reached step = puts_region m now worker r reply step.allowed.0.0 step.allowed.0.1
moves_step m now worker (Settle d) reply table reached step = record { regions = λ q. refl; shares = λ d s. refl }
moves_step m now worker Poll reply table reached step = record { regions = λ q. refl; shares = λ d s. refl }
moves_step m now worker (Copy d n) reply table reached step = record { regions = λ q. refl; shares = λ d s. refl }

-- in each legal history
pub moves_in : (m : MoveTable) (workers : ℕ) (log : List Entry) (worker : ℕ) (event : Event) (reply : Reply) → IsMoveTable m → IsLegal m workers (log ++ entry worker event reply ∷ [])
    → MovesShares m (state_of log) (state_after (state_of log) worker event reply) event reply
moves_in m workers log worker event reply table legal =
    moves_step m (state_of log) worker event reply table (legal_reached m workers log (AreSteps-front m workers opening log (entry worker event reply ∷ []) legal))
    (AreSteps-rest m workers opening log (entry worker event reply ∷ []) legal).1
