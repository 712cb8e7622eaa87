-- Stakes of one session, and how they are dealt.
use Rattle.std.proofs.Common.{◌≡◌, ℕ, ◌+◌, ◌-◌, ◌≤◌, List, [], ◌∷◌, ◌++◌, refl, sym, subst, arith}
use Rattle.std.specs.Prelude.{Option, Some, IfSome}
use Rattle.std.specs.Option.{ForSome}
use Rattle.read_shares.specs.Parts.{all_parts}
use Rattle.read_shares.specs.declared.share.ReadShare.{ReadShare}
use Rattle.claim_board.specs.Boards.{board_of}
use Rattle.claim_board.specs.RegionBoards.{identity}
use Rattle.collector.specs.Rest.{Rests}
use Rattle.collector.specs.SessionIds.{SessionView}
use Rattle.collector.specs.Stakes.{IsStake, IsStakeOf, Leads}
use Rattle.collector.specs.declared.workers.worker.Worker.{Worker}
use Rattle.collector.specs.declared.session.Session.{Session}
use Rattle.collector.specs.declared.session.stake.SessionDeed.{SessionDeed}
use Rattle.collector.specs.declared.session.stake.Stake.{Stake}
use Rattle.collector.proofs.Lemmas.Passes.{front_and_last}

-- a stake of the session that a slot is of has one part of it
pub one_part : (slot id : SessionView) (n : ℕ) (stake : Stake) → slot ≡ id → 1 ≡ n → IsStakeOf slot 1 stake → IsStakeOf id n stake
one_part slot id n stake same one is = subst (λ (m : ℕ). IsStakeOf id m stake) one (subst (λ (s : SessionView). IsStakeOf s 1 stake) same is)

-- what holds of a lead holds of the one in an option
pub of_some : {X : Type 0} (P : X → Type 0) (x : X) → P x → ForSome (Some x) P
of_some P x holds y is = subst (λ (o : Option _). IfSome o P) is holds

-- one of the workers to whom a session is dealt, and the others
module _ (id : SessionView) (out : ℕ) (lead : SessionDeed) (all front : List Worker) (worker : Worker) (is : all ≡ front ++ worker ∷ []) (leads : Leads id out lead all) where
  abbrev IsSeated : Session → Worker → Type 0
  IsSeated s w = board_of w.seat.pass ≡ identity s.shared.desk

  -- the lead that goes with the last stake
  abbrev pub IsLast : SessionDeed → Type 0
  IsLast l = (l.deed.origin ≡ id.origin) × (l.deed.value ≡ lead.rest.value) × (l.rest.origin ≡ id.origin) × (l.rest.parts + id.workers ≡ all_parts)

  pub dealt : (own : SessionView) (one : ReadShare (Option Session)) (l : Option SessionDeed) → own ≡ id → one ≡ record lead.rest { parts = 1 } → ForSome l IsLast → IsStake own 1 one worker.seat.pass l
  dealt own one l same split led =
      subst (λ (o : SessionView). IsStake o 1 one worker.seat.pass l) (sym same)
      (subst (λ (s : ReadShare (Option Session)). IsStake id 1 s worker.seat.pass l) (sym split) (record {
        origin = leads.rest;
        parts = refl;
        there = leads.there;
        heap = leads.heap;
        queues = leads.queues;
        seated = λ s at. (front_and_last (IsSeated s) all front worker is (leads.seated s at)).1;
        rests = (front_and_last (λ (w : Worker). Rests w.seat.pass) all front worker is leads.at_rest).1;
        led = led;
      }))

  pub remains : (rest : ReadShare (Option Session)) → 1 ≤ lead.rest.parts → rest ≡ record lead.rest { parts = lead.rest.parts - 1 } → Leads id (out + 1) (record { deed = lead.deed; rest = rest }) front
  remains rest some split =
      subst (λ (r : ReadShare (Option Session)). Leads id (out + 1) (record { deed = lead.deed; rest = r }) front) (sym split) (record {
        deed = leads.deed;
        rest = leads.rest;
        parts = omega (arith, leads.parts, some);
        same = leads.same;
        there = leads.there;
        heap = leads.heap;
        queues = leads.queues;
        seated = λ s at. (front_and_last (IsSeated s) all front worker is (leads.seated s at)).0;
        at_rest = (front_and_last (λ (w : Worker). Rests w.seat.pass) all front worker is leads.at_rest).0;
      })
