-- Workers at rest, and what one of them fills after the others.
use Rattle.std.proofs.Common.{◌≡◌, ◌≢◌, ◌⊎◌, ℕ, ◌+◌, ◌<◌, Bool, true, false, List, [], ◌∷◌, ◌++◌, Option, Some, None, refl, sym, ap, ◌∙◌, subst, inl, inr, append_assoc, append-nil, arith}
use Rattle.std.specs.Prelude.{IsTrue, ◌==◌, ◌||◌, Err}
use Rattle.std.proofs.lemmas.Bool.{cases_eq, or_left, or_right, eq-eqb, ne_eqb}
use Rattle.std.proofs.lemmas.List.Elements.{filter-append}
use Rattle.scheduler.specs.declared.event.Event.{Event}
use Rattle.scheduler.specs.declared.event.Event.TheVariants.{Claim, Look, Drain, Complete, Settle, Poll, Copy}
use Rattle.scheduler.specs.declared.reply.Reply.{Reply}
use Rattle.scheduler.specs.declared.reply.Reply.TheVariants.{Yes, No}
use Rattle.scheduler.specs.declared.entry.Entry.{Entry}
use Rattle.scheduler.specs.MoveTable.{MoveTable, IsMoveTable, to_fill}
use Rattle.scheduler.specs.State.{State, opening, state_after}
use Rattle.scheduler.specs.History.{entry, state_from, state_of, calls_by, BeginsWith, IsLegal, IsReached, TellsOwn}
use Rattle.claim_board.specs.declared.pass.Pass.{Pass}
use Rattle.claim_board.specs.declared.regions.region_board.RegionBoard.{RegionBoard}
use Rattle.claim_board.specs.Boards.{caller, worker, held, AppendsTo}
use Rattle.std.specs.Box.{box_allocator}
use Rattle.claim_board.specs.RegionBoards.{moves, worker_count, original_words, spot, Holds}
use Rattle.claim_board.specs.Rule.{Extends}
use Rattle.claim_board.specs.Drains.{reply_of}
use Rattle.claim_board.specs.Callers.{Caller, own, Gains}
use Rattle.fill.specs.SourceDrains.{SourceDrain, drain_calls, GainsAll}
use Rattle.claim_board.specs.Tickets.{IsUnused, IsTicketOf}
use Rattle.collector.specs.declared.workers.held_region.HeldRegion.{HeldRegion}
use Rattle.collector.specs.declared.workers.end.End.{End}
use Rattle.collector.specs.declared.workers.end.End.TheVariants.{Stopped, Failed}
use Rattle.collector.specs.Rest.{HasSettled, IsTidy, Rests, IsAtRest, HoldsRegion, Ends, Settles, OthersRest, AreSettledBelow}

-- states

pub state_append : (now : State) (xs ys : List Entry) → state_from now (xs ++ ys) ≡ state_from (state_from now xs) ys
state_append now [] ys = refl
state_append now (x ∷ xs) ys = state_append (state_after now x.worker x.event x.reply) xs ys

settled_after : (now : State) (worker : ℕ) (event : Event) (reply : Reply) (r : ℕ) → now.settled r ≡ true → (state_after now worker event reply).settled r ≡ true
settled_after now worker (Claim q) Yes r is = is
settled_after now worker (Claim q) reply r is = is
settled_after now worker (Look q) reply r is = is
settled_after now worker (Drain e t) reply r is = is
settled_after now worker (Complete e) reply r is = is
settled_after now worker (Settle e) reply r is = or_right (r == e) (now.settled r) is
settled_after now worker Poll reply r is = is
settled_after now worker (Copy e n) reply r is = is

-- a settled region stays settled
pub settled_from : (now : State) (log : List Entry) (r : ℕ) → now.settled r ≡ true → (state_from now log).settled r ≡ true
settled_from now [] r is = is
settled_from now (x ∷ xs) r is = settled_from (state_after now x.worker x.event x.reply) xs r (settled_after now x.worker x.event x.reply r is)

pub settled_later : (log seen : List Entry) (r : ℕ) → BeginsWith log seen → (state_of seen).settled r ≡ true → (state_of log).settled r ≡ true
settled_later log seen r b is = rw (b.1, state_append opening seen b.0) (settled_from (state_of seen) b.0 r is)

-- drains change neither claims nor settlings
drains_leave : (now : State) (worker d : ℕ) (drains : List SourceDrain) (q : ℕ)
    → ((state_from now (drain_calls worker d drains)).claimed q ≡ now.claimed q) × ((state_from now (drain_calls worker d drains)).settled q ≡ now.settled q)
drains_leave now worker d [] q = (refl, refl)
drains_leave now worker d (x ∷ xs) q = drains_leave (state_after now worker (Drain d x.source) (reply_of x.answer)) worker d xs q

-- histories

pub begins_all : (a b c : List Entry) → BeginsWith c b → BeginsWith b a → BeginsWith c a
begins_all a b c cb ba = (ba.0 ++ cb.0, cb.1 ∙ (ap (λ l. l ++ cb.0) ba.1 ∙ append_assoc a ba.0 cb.0))

pub begins_self : (log : List Entry) → BeginsWith log log
begins_self log = ([], sym (append-nil log))

pub begins_last : (old before new : List Entry) (e : Entry) → BeginsWith before old → new ≡ before ++ e ∷ [] → BeginsWith new old
begins_last old before new e b is = begins_all old before new (e ∷ [], is) b

calls_append : (w : ℕ) (xs ys : List Entry) → calls_by w (xs ++ ys) ≡ calls_by w xs ++ calls_by w ys
calls_append w xs ys = filter-append (λ e. e.worker == w) xs ys

pub calls_begin : (w : ℕ) (log seen : List Entry) → BeginsWith log seen → BeginsWith (calls_by w log) (calls_by w seen)
calls_begin w log seen b = (calls_by w b.0, ap (calls_by w) b.1 ∙ calls_append w seen b.0)

-- what is added twice and changes nothing is nothing
nothing_added : {X : Type 0} (xs ys zs : List X) → xs ≡ (xs ++ ys) ++ zs → ys ≡ []
nothing_added [] [] zs e = refl
nothing_added [] (y ∷ ys) zs e = absurd (cons_none (ys ++ zs) y (sym e))
  where
    cons_none : {X : Type 0} (l : List X) (y : X) → y ∷ l ≡ [] → ⊥
    cons_none l y e = cc
nothing_added (x ∷ xs) ys zs e = nothing_added xs ys zs (tails e)
  where
    tails : {X : Type 0} {a b : X} {l m : List X} → a ∷ l ≡ b ∷ m → l ≡ m
    tails e = cc

-- a list between two equal ones is equal to them
pub between : {X : Type 0} (low mid high : List X) → (l : List X) × (mid ≡ low ++ l) → (h : List X) × (high ≡ mid ++ h) → high ≡ low → mid ≡ low
between low mid high lm mh same =
    let whole : low ≡ (low ++ lm.0) ++ mh.0 = sym same ∙ (mh.1 ∙ ap (λ x. x ++ mh.0) lm.1) in
    lm.1 ∙ (ap (λ l. low ++ l) (nothing_added low lm.0 mh.0 whole) ∙ append-nil low)

-- others who rest up to a later moment rest up to an earlier one
pub rests_before : (worker : ℕ) (past mid log : List Entry) → BeginsWith mid past → BeginsWith log mid → OthersRest worker past log → OthersRest worker past mid
rests_before worker past mid log first last rest =
    record {
      no_more = λ w apart. between (calls_by w past) (calls_by w mid) (calls_by w log) (calls_begin w mid past first) (calls_begin w log mid last) (rest.no_more w apart);
      settled = rest.settled;
    }

-- tidy workers

-- the same worker, which is tidy again if it was
abbrev pub StaysTidy : Caller → Caller → Type 0
StaysTidy old new = (new.worker ≡ old.worker) × (IsTidy old → IsTidy new)

gained_state : (old new : Caller) (event : Event) (reply : Reply) → Gains old new event reply → own new ≡ state_after (own old) old.worker event reply
gained_state old new event reply g = ap state_of g.mine ∙ state_append opening old.mine (entry old.worker event reply ∷ [])

-- the claims and settlings of the second state are those of the first
pub tidy_alike : (old new : Caller) → new.worker ≡ old.worker → ((q : ℕ) → (own new).claimed q ≡ (own old).claimed q) → ((q : ℕ) → (own new).settled q ≡ (own old).settled q) → StaysTidy old new
tidy_alike old new worker claimed settled = (worker, λ tidy q mine. settled q ∙ tidy q (sym (claimed q) ∙ (mine ∙ ap Some worker)))

-- a call that neither grants nor settles
pub tidy_by : (old new : Caller) (event : Event) (reply : Reply) → Gains old new event reply → ((now : State) (w : ℕ) → state_after now w event reply ≡ now) → StaysTidy old new
tidy_by old new event reply g leaves =
    let same : own new ≡ own old = gained_state old new event reply g ∙ leaves (own old) old.worker in
    tidy_alike old new g.worker (λ q. ap (λ (s : State). s.claimed q) same) (λ q. ap (λ (s : State). s.settled q) same)

pub tidy_look : (old new : Caller) (r : ℕ) (reply : Reply) → Gains old new (Look r) reply → StaysTidy old new
tidy_look old new r reply g = tidy_by old new (Look r) reply g (λ now w. refl)

pub tidy_poll : (old new : Caller) (reply : Reply) → Gains old new Poll reply → StaysTidy old new
tidy_poll old new reply g = tidy_by old new Poll reply g (λ now w. refl)

pub tidy_refused : (old new : Caller) (r : ℕ) → Gains old new (Claim r) No → StaysTidy old new
tidy_refused old new r g = tidy_by old new (Claim r) No g (λ now w. refl)

pub tidy_self : (c : Caller) → StaysTidy c c
tidy_self c = (refl, λ tidy. tidy)

pub tidy_all : (a b c : Caller) → StaysTidy a b → StaysTidy b c → StaysTidy a c
tidy_all a b c ab bc = (bc.0 ∙ ab.0, λ tidy. bc.1 (ab.1 tidy))

-- the calls of a fill, and the settling
pub settles_filled : (old mid new : Caller) (r : ℕ) (drains : List SourceDrain) (answer reply : Reply)
    → GainsAll old mid (drain_calls old.worker r drains ++ entry old.worker (Complete r) answer ∷ []) → Gains mid new (Settle r) reply → Settles r old new
settles_filled old mid new r drains answer reply g s =
    record {
      board = s.board ∙ g.board;
      worker = s.worker ∙ g.worker;
      seen = begins_all old.seen mid.seen new.seen (begins_all mid.seen s.seen.0 new.seen (entry mid.worker (Settle r) reply ∷ [], s.seen.2) s.seen.1) g.seen;
      settled = rw (s.seen.2, state_append opening s.seen.0 (entry mid.worker (Settle r) reply ∷ [])) (or_left (r == r) ((state_of s.seen.0).settled r) (eq-eqb r r refl));
      claimed = λ q. ap (λ (st : State). st.claimed q) last ∙ (ap (λ (st : State). st.claimed q) filled ∙ (drains_leave (own old) old.worker r drains q).0);
      settled_too = λ q. ap (λ (st : State). st.settled q) last
          ∙ ap (λ (b : Bool). (q == r) || b) (ap (λ (st : State). st.settled q) filled ∙ (drains_leave (own old) old.worker r drains q).1);
    }
  where
    drained : State
    drained = state_from (own old) (drain_calls old.worker r drains)

    filled : own mid ≡ state_after drained old.worker (Complete r) answer
    filled = ap state_of g.mine
        ∙ (state_append opening old.mine (drain_calls old.worker r drains ++ entry old.worker (Complete r) answer ∷ [])
        ∙ state_append (own old) (drain_calls old.worker r drains) (entry old.worker (Complete r) answer ∷ []))

    last : own new ≡ state_after (own mid) mid.worker (Settle r) reply
    last = gained_state mid new (Settle r) reply s

-- the rest

module _ (m : MoveTable) (workers worker : ℕ) (past : List Entry) where
  -- the next region has been settled
  pub below_filled : (now later : List Entry) (r : ℕ) → AreSettledBelow m workers worker past now r → BeginsWith later now → (state_of later).settled r ≡ true
      → AreSettledBelow m workers worker past later (r + 1)
  below_filled now later r below longer settled log legal b rest q under fills = go (cases_eq q r)
    where
      go : (q ≡ r) ⊎ (q ≡ r → ⊥) → (state_of log).settled q ≡ true
      go (inl same) = rw same (settled_later log later r b settled)
      go (inr apart) = below log legal (begins_all now later log b longer) rest q (omega (arith, under, apart)) fills

  -- a region to fill is claimed by somebody if it isn't granted where all below it are settled
  pub below_refused : IsMoveTable m
      → ((log : List Entry) → IsLegal m workers log → IsReached m (state_of log))
      → ((w : ℕ) (log : List Entry) → IsLegal m workers log → TellsOwn w (state_of (calls_by w log)) (state_of log))
      → ((log : List Entry) (r : ℕ) (reply : Reply) → IsLegal m workers (log ++ entry worker (Claim r) reply ∷ []) → IsTrue (to_fill m r) → (state_of log).claimed r ≡ None
      → ((q : ℕ) → q < r → IsTrue (to_fill m q) → IsTrue ((state_of log).filled q)) → reply ≡ Yes)
      → (now mine now' mine' : List Entry) (r : ℕ) → BeginsWith now past → HasSettled worker mine → Extends m workers worker now mine (Claim r) No now' mine'
      → AreSettledBelow m workers worker past now r → AreSettledBelow m workers worker past now' (r + 1)
  below_refused table reached tells granted now mine now' mine' r begins tidy x below log legal b rest q under fills = go (cases_eq q r)
    where
      before : List Entry
      before = x.before

      longer : BeginsWith log before
      longer = begins_all before now' log b (entry worker (Claim r) No ∷ [], x.seen_is)

      rest' : OthersRest worker past before
      rest' = rests_before worker past before log (begins_all past now before x.begins begins) longer rest

      settled_below : (p : ℕ) → p < r → to_fill m p ≡ true → (state_of before).settled p ≡ true
      settled_below = below before x.legal_before x.begins rest'

      own_of : (w : ℕ) → TellsOwn w (state_of (calls_by w before)) (state_of before)
      own_of w = tells w before x.legal_before

      by_other : (w : ℕ) → w ≢ worker → (state_of before).claimed r ≡ Some w → (state_of before).settled r ≡ true
      by_other w apart claimed =
          let a = (own_of w).claimed r claimed in
          let calls : calls_by w before ≡ calls_by w past = rest'.no_more w apart in
          sym a.settled ∙ (rw calls (rest'.settled w apart r (rw calls at a.claimed ∙ claimed)))

      by_self : (state_of before).claimed r ≡ Some worker → (state_of before).settled r ≡ true
      by_self claimed =
          let a = (own_of worker).claimed r claimed in
          sym a.settled ∙ (rw x.calls (tidy r (rw x.calls at a.claimed ∙ claimed)))

      claimed_by : (o : Option ℕ) → (state_of before).claimed r ≡ o → to_fill m r ≡ true → (state_of before).settled r ≡ true
      claimed_by None none fills =
          let yes : No ≡ Yes = granted before r No (subst (IsLegal m workers) x.seen_is x.legal) fills none (λ p low to. (reached before x.legal_before).settled_filled p (settled_below p low to)) in
          absurd (not_yes yes)
        where
          not_yes : No ≡ Yes → ⊥
          not_yes e = cc
      claimed_by (Some w) claimed fills = who (cases_eq w worker)
        where
          who : (w ≡ worker) ⊎ (w ≡ worker → ⊥) → (state_of before).settled r ≡ true
          who (inl same) = by_self (claimed ∙ ap Some same)
          who (inr apart) = by_other w apart claimed

      go : (q ≡ r) ⊎ (q ≡ r → ⊥) → (state_of log).settled q ≡ true
      go (inl same) = rw same (settled_later log before r longer (claimed_by ((state_of before).claimed r) refl (rw same at fills)))
      go (inr apart) = settled_later log before q longer (settled_below q (omega (arith, under, apart)) fills)

-- passes

-- a call that was appended to a pass is gained by its caller
pub gained_by : (m : MoveTable) (workers : ℕ) (old new : Pass) (event : Event) (reply : Reply) → AppendsTo m workers old new event reply → Gains (caller old) (caller new) event reply
gained_by m workers old new event reply e = let x = e.history in record { board = e.board; worker = e.worker; seen = (x.before, x.begins, x.seen_is); mine = x.mine_is }

pub rest_self : (p : Pass) → Rests p → IsAtRest p p
rest_self p rest = (refl, rest)

pub rest_all : (a b c : Pass) → IsAtRest a b → IsAtRest b c → IsAtRest a c
rest_all a b c ab bc = (bc.0 ∙ ab.0, bc.1)

-- a call that leaves tidy what is tidy, and holds as much
pub rest_by : (old new : Pass) → StaysTidy (caller old) (caller new) → held new ≡ [] → Rests old → IsAtRest old new
rest_by old new stays bare rest = (stays.0, (stays.1 rest.0, bare))

pub rest_looked : (m : MoveTable) (workers : ℕ) (old new : Pass) (r : ℕ) (reply : Reply) → AppendsTo m workers old new (Look r) reply → held new ≡ held old → Rests old → IsAtRest old new
rest_looked m workers old new r reply e same rest = rest_by old new (tidy_look (caller old) (caller new) r reply (gained_by m workers old new (Look r) reply e)) (same ∙ rest.1) rest

pub rest_polled : (m : MoveTable) (workers : ℕ) (old new : Pass) (reply : Reply) → AppendsTo m workers old new Poll reply → held new ≡ held old → Rests old → IsAtRest old new
rest_polled m workers old new reply e same rest = rest_by old new (tidy_poll (caller old) (caller new) reply (gained_by m workers old new Poll reply e)) (same ∙ rest.1) rest

pub rest_refused : (m : MoveTable) (workers : ℕ) (old new : Pass) (r : ℕ) → AppendsTo m workers old new (Claim r) No → held new ≡ [] → Rests old → IsAtRest old new
rest_refused m workers old new r e bare rest = rest_by old new (tidy_refused (caller old) (caller new) r (gained_by m workers old new (Claim r) No e)) bare rest

-- a worker that keeps the region that it has claimed
pub holds_claimed : (b : RegionBoard) (regions : ℕ) (old new : Pass) (r : ℕ) (h : HeldRegion) → AppendsTo (moves b) (worker_count b) old new (Claim r) Yes → h.ticket.ticket.region ≡ r
    → IsUnused h.ticket.ticket → IsTicketOf (moves b) (caller new) h.ticket.ticket → Holds b h.ticket new → h.region.value ≡ original_words b r → box_allocator h.region ≡ spot b r → r < regions → Rests old → HoldsRegion b regions h new
holds_claimed b regions old new r h e same unused own_ticket rights words place inside rest =
    record {
      unused = unused;
      own_ticket = own_ticket;
      inside = rw same inside;
      rights = rights;
      words = words ∙ ap (original_words b) (sym same);
      place = place ∙ ap (spot b) (sym same);
      settled = λ q apart mine.
          let g : Gains (caller old) (caller new) (Claim r) Yes = gained_by (moves b) (worker_count b) old new (Claim r) Yes e in
          let state : own (caller new) ≡ state_after (own (caller old)) (worker old) (Claim r) Yes = gained_state (caller old) (caller new) (Claim r) Yes g in
          let other : (q == r) ≡ false = ne_eqb q r (λ e. apart (e ∙ sym same)) in
          let claimed : (own (caller new)).claimed q ≡ (own (caller old)).claimed q = ap (λ (s : State). s.claimed q) state ∙ (rw other refl) in
          ap (λ (s : State). s.settled q) state ∙ rest.0 q (sym claimed ∙ (mine ∙ ap Some g.worker));
    }

-- a worker that has settled the region that it held
pub rest_settled : (b : RegionBoard) (regions : ℕ) (h : HeldRegion) (old new : Pass) → HoldsRegion b regions h old → Settles h.ticket.ticket.region (caller old) (caller new) → held new ≡ [] → IsAtRest old new
rest_settled b regions h old new holds s bare = (s.worker, ((λ q mine. go q mine (cases_eq q h.ticket.ticket.region)), bare))
  where
    r : ℕ
    r = h.ticket.ticket.region

    go : (q : ℕ) → (own (caller new)).claimed q ≡ Some (worker new) → (q ≡ r) ⊎ (q ≡ r → ⊥) → (own (caller new)).settled q ≡ true
    go q mine (inl same) = s.settled_too q ∙ or_left (q == r) ((own (caller old)).settled q) (eq-eqb q r same)
    go q mine (inr apart) =
        let before : (own (caller old)).claimed q ≡ Some (worker old) = sym (s.claimed q) ∙ (mine ∙ ap Some s.worker) in
        s.settled_too q ∙ or_right (q == r) ((own (caller old)).settled q) (holds.settled q apart before)

-- how a worker that was at rest before ends early
pub ends_after : (X Y : Type 0) (b : RegionBoard) (regions : ℕ) (end : End) (first last new : Pass) → IsAtRest first last → Ends {X = X} b regions (Err end) last new → Ends {X = Y} b regions (Err end) first new
ends_after X Y b regions (Stopped None) first last new before ends = (ends.0 ∙ before.0, ends.1)
ends_after X Y b regions (Stopped (Some h)) first last new before ends = (ends.0 ∙ before.0, ends.1)
ends_after X Y b regions (Failed fault) first last new before ends = tt
