-- The history of all workers once all regions to fill are settled.
use Rattle.std.proofs.Common.{◌≡◌, ◌≢◌, ◌⊎◌, ℕ, ◌<◌, ◌≤◌, Bool, true, false, List, [], ◌∷◌, ◌++◌, length, get_or, Some, refl, sym, ◌∙◌, subst, inl, inr, arith}
use Rattle.std.specs.Prelude.{All, map, not, ◌&&◌, count_by, slice_index_or}
use Rattle.std.specs.List.{range_with_len}
use Rattle.std.proofs.lemmas.Bool.{cases_eq, cases_lt, ne_eqb}
use Rattle.std.proofs.lemmas.List.{map-append}
use Rattle.std.proofs.lemmas.List.Elements.{All-push}
use Rattle.scheduler.specs.declared.event.Event.TheVariants.{Poll}
use Rattle.scheduler.specs.declared.reply.Reply.TheVariants.{All as AllReply, More}
use Rattle.scheduler.specs.declared.entry.Entry.{Entry}
use Rattle.scheduler.specs.MoveTable.{MoveTable, to_fill, region_count}
use Rattle.scheduler.specs.State.{State, AllAreSettled, unsettled, all_or_more, state_after, IsStep}
use Rattle.scheduler.specs.History.{AreSteps, IsLegal, BeginsWith, calls_by, entry, state_from, state_of}
use Rattle.claim_board.specs.declared.pass.Pass.{Pass}
use Rattle.claim_board.specs.Boards.{seen, mine, worker, caller, AllStand}
use Rattle.claim_board.specs.Callers.{Caller}
use Rattle.claim_board.specs.Rule.{Extends}
use Rattle.collector.specs.declared.workers.worker.Worker.{Worker}
use Rattle.collector.specs.Rest.{HasSettled, OthersRest, AreAtRest, HasAllCalls, IsFilled, callers_of}
use Rattle.collector.proofs.Lemmas.Rest.{between, calls_begin, begins_all, settled_later}
use Rattle.collector.proofs.Lemmas.Settled.{none_left}

-- if every region to fill is settled, none is left unsettled
none_counted : (p : ℕ → Bool) (xs : List ℕ) → ((k : ℕ) → p k ≡ false) → count_by p xs ≡ 0
none_counted p [] none = refl
none_counted p (x ∷ xs) none = rw (none x) (none_counted p xs none)

pub all_settled : (m : MoveTable) (now : State) → AllAreSettled m now → unsettled m now ≡ 0
all_settled m now all = none_counted (λ r. to_fill m r && not (now.settled r)) (range_with_len 0 (region_count m)) (λ r. go r (to_fill m r) refl)
  where
    go : (r : ℕ) (b : Bool) → to_fill m r ≡ b → (b && not (now.settled r)) ≡ false
    go r true fills = rw (all r fills) refl
    go r false fills = refl

-- what stands with all passes stands with the front, and with the last
pub stands_with : (log : List Entry) (passes : List Pass) (p : Pass) → AllStand log (passes ++ p ∷ []) → AllStand log passes × (BeginsWith log (seen p) × (calls_by (worker p) log ≡ mine p))
stands_with log [] p all = (tt, all.0)
stands_with log (q ∷ qs) p all = let rest = stands_with log qs p all.1 in ((all.0, rest.0), rest.1)

-- the calls of one worker more
pub more_calls : (log : List Entry) (front : List Worker) (last : Worker) → HasAllCalls log (callers_of front)
    → BeginsWith log (seen last.seat.pass) × (calls_by (worker last.seat.pass) log ≡ mine last.seat.pass) → HasAllCalls log (callers_of (front ++ last ∷ []))
more_calls log front last all one =
    let P : Caller → Type 0 = λ c. BeginsWith log c.seen × (calls_by c.worker log ≡ c.mine) in
    let f : Worker → Caller = λ w. caller w.seat.pass in
    subst (All P) (sym (map-append f front (last ∷ []))) (All-push P (map f front) (f last) all one)

-- a legal history has no calls of workers beyond their number
no_calls : (m : MoveTable) (workers w : ℕ) (now : State) (log : List Entry) → AreSteps m workers now log → workers ≤ w → calls_by w log ≡ []
no_calls m workers w now [] legal beyond = refl
no_calls m workers w now (e ∷ es) legal beyond =
    let apart : e.worker ≢ w = λ same. let low = legal.0 in omega (arith, same) in
    rw (ne_eqb e.worker w apart) (no_calls m workers w (state_after now e.worker e.event e.reply) es legal.2 beyond)

-- the reply All to a poll
last_step : (m : MoveTable) (workers : ℕ) (now : State) (log : List Entry) (e : Entry) → AreSteps m workers now (log ++ e ∷ [])
    → IsStep m (state_from now log) e.worker e.event e.reply (state_after (state_from now log) e.worker e.event e.reply)
last_step m workers now [] e legal = legal.1
last_step m workers now (x ∷ xs) e legal = last_step m workers (state_after now x.worker x.event x.reply) xs e legal.2

pub polled_all : (m : MoveTable) (workers w : ℕ) (old own now own' : List Entry) → Extends m workers w old own Poll AllReply now own'
    → (log : List Entry) → BeginsWith log now → AllAreSettled m (state_of log)
polled_all m workers w old own now own' x log longer r fills =
    let step = last_step m workers Rattle.scheduler.specs.State.opening x.before (entry w Poll AllReply) (subst (IsLegal m workers) x.seen_is x.legal) in
    settled_later log x.before r (begins_all x.before now log longer (entry w Poll AllReply ∷ [], x.seen_is))
    (none_left m (state_of x.before) (none (unsettled m (state_of x.before)) step.replied) r fills)
  where
    none : (n : ℕ) → AllReply ≡ all_or_more n → n ≡ 0
    none n e = go (cases_eq n 0)
      where
        go : (n ≡ 0) ⊎ (n ≡ 0 → ⊥) → n ≡ 0
        go (inl same) = same
        go (inr other) = let more : all_or_more n ≡ More = rw (ne_eqb n 0 other) refl in absurd (let f : AllReply ≡ More = e ∙ more in cc)

-- What worker 0 filled after all others is all that was left. `heard` is what its pass had seen before.
pub rest_is_filled : (m : MoveTable) (workers : ℕ) (callers : List Caller) (heard now : List Entry) → workers ≡ length callers → AreAtRest callers
    → ((w : ℕ) (c : Caller) → w ≢ 0 → w < length callers → BeginsWith (calls_by w heard) (slice_index_or callers w c).mine)
    → BeginsWith now heard
    → ((log : List Entry) → IsLegal m workers log → BeginsWith log now → OthersRest 0 heard log → AllAreSettled m (state_of log))
    → ((log : List Entry) → HasAllCalls log callers → BeginsWith log now)
    → IsFilled m workers callers
rest_is_filled m workers callers heard now count rest hears later settled begins log legal all =
    settled log legal (begins log all) (record { no_more = no_more; settled = at_rest })
  where
    anyone : Caller
    anyone = record { board = record { words = 0; slots = 0; views_name = 0; atom = 0; block = 0; offset = 0; slot_names = [] }; worker = 0; seen = []; mine = [] }

    longer : BeginsWith log heard
    longer = begins_all heard now log (begins log all) later

    -- the calls of each other worker in what was heard are its own
    own_calls : (w : ℕ) → w ≢ 0 → w < length callers → (calls_by w heard ≡ (get_or callers w anyone).mine) × (calls_by w log ≡ (get_or callers w anyone).mine)
    own_calls w apart inside =
        let c : Caller = get_or callers w anyone in
        let own : calls_by w log ≡ c.mine = subst (λ (k : ℕ). calls_by k log ≡ c.mine) (rest.numbered w anyone inside) (all w anyone inside).1 in
        (between c.mine (calls_by w heard) (calls_by w log) (hears w anyone apart inside) (calls_begin w log heard longer) own, own)

    none_beyond : (w : ℕ) → length callers ≤ w → (calls_by w log ≡ []) × (calls_by w heard ≡ [])
    none_beyond w beyond =
        let none : calls_by w log ≡ [] = no_calls m workers w Rattle.scheduler.specs.State.opening log legal (omega (arith, count)) in
        (none, nothing (calls_by w heard) (calls_begin w log heard longer).0 (sym none ∙ (calls_begin w log heard longer).1))
      where
        nothing : (xs ys : List Entry) → [] ≡ xs ++ ys → xs ≡ []
        nothing [] ys e = refl
        nothing (x ∷ xs) ys e = absurd (let f : [] ≡ x ∷ (xs ++ ys) = e in cc)

    below : (w : ℕ) → (w < length callers) ⊎ (length callers ≤ w)
    below w = cases_lt w (length callers)

    no_more : (w : ℕ) → w ≢ 0 → calls_by w log ≡ calls_by w heard
    no_more w apart = go (below w)
      where
        go : (w < length callers) ⊎ (length callers ≤ w) → calls_by w log ≡ calls_by w heard
        go (inl inside) = let o = own_calls w apart inside in o.1 ∙ sym o.0
        go (inr beyond) = let n = none_beyond w beyond in n.0 ∙ sym n.1

    at_rest : (w : ℕ) → w ≢ 0 → HasSettled w (calls_by w heard)
    at_rest w apart = go (below w)
      where
        go : (w < length callers) ⊎ (length callers ≤ w) → HasSettled w (calls_by w heard)
        go (inl inside) =
            let c : Caller = get_or callers w anyone in
            subst (HasSettled w) (sym (own_calls w apart inside).0) (subst (λ (k : ℕ). HasSettled k c.mine) (rest.numbered w anyone inside) (rest.tidy w anyone inside))
        go (inr beyond) = subst (HasSettled w) (sym (none_beyond w beyond).1) (λ r claimed. absurd (let f : Rattle.std.specs.Prelude.None ≡ Some w = claimed in cc))
