-- What worker 0 fills behind the others.
use Rattle.std.proofs.Common.{◌≡◌, ◌≢◌, ℕ, zero, suc, ◌<◌, List, [], ◌∷◌, length, get_or, refl, sym, ap, ◌∙◌, subst, arith}
use Rattle.std.specs.Prelude.{All, map, Result, Ok, Err, OnOk}
use Rattle.std.proofs.lemmas.List.{length-map}
use Rattle.std.proofs.lemmas.List.Elements.{All-head, All-tail, All-cons}
use Rattle.scheduler.specs.declared.event.Event.TheVariants.{Poll}
use Rattle.scheduler.specs.declared.reply.Reply.TheVariants.{All as AllReply}
use Rattle.scheduler.specs.declared.entry.Entry.{Entry}
use Rattle.scheduler.specs.MoveTable.{MoveTable}
use Rattle.scheduler.specs.State.{AllAreSettled}
use Rattle.scheduler.specs.History.{BeginsWith, calls_by, state_of}
use Rattle.claim_board.specs.declared.pass.Pass.{Pass}
use Rattle.claim_board.specs.declared.regions.region_board.RegionBoard.{RegionBoard}
use Rattle.claim_board.specs.Boards.{worker, seen, mine, AppendsTo}
use Rattle.claim_board.specs.RegionBoards.{moves, worker_count}
use Rattle.claim_board.specs.Callers.{Caller}
use Rattle.collector.specs.Rest.{HasSettled, IsTidy, AreSettledAtRest, AreAtRest, AreSame, IsFilled}
use Rattle.collector.proofs.Lemmas.Rest.{StaysTidy}
use Rattle.collector.proofs.Lemmas.Finishing.{polled_all, rest_is_filled}

pub polled_settled : (b : RegionBoard) (old new : Pass) → AppendsTo (moves b) (worker_count b) old new Poll AllReply → (log : List Entry) → BeginsWith log (seen new)
    → AllAreSettled (moves b) (state_of log)
polled_settled b old new a = polled_all (moves b) (worker_count b) (worker old) (seen old) (mine old) (seen new) (mine new) a.history

-- all is filled if the first worker has seen all settled
pub filled_as_seen : (m : MoveTable) (workers : ℕ) (first : Caller) (others : List Caller)
    → ((log : List Entry) → BeginsWith log first.seen → AllAreSettled m (state_of log)) → IsFilled m workers (first ∷ others)
filled_as_seen m workers first others settled log legal all = settled log (all zero first (omega arith)).0

-- the same callers, place by place
pub same_at : (old new : List Caller) → AreSame old new → (k : ℕ) (c : Caller) → ((get_or new k c).worker ≡ (get_or old k c).worker) × ((get_or new k c).mine ≡ (get_or old k c).mine)
same_at [] [] same k c = (refl, refl)
same_at [] (y ∷ ys) same k c = let f : y.worker ∷ map (λ (e : Caller). e.worker) ys ≡ [] = same.0 in absurd (cc)
same_at (x ∷ xs) [] same k c = let f : [] ≡ x.worker ∷ map (λ (e : Caller). e.worker) xs = same.0 in absurd (cc)
same_at (x ∷ xs) (y ∷ ys) same zero c = (first same.0, first same.1)
  where
    first : {X : Type 0} {a b : X} {l m : List X} → a ∷ l ≡ b ∷ m → a ≡ b
    first e = cc
same_at (x ∷ xs) (y ∷ ys) same (suc k) c = same_at xs ys (tails same.0, tails same.1) k c
  where
    tails : {X : Type 0} {a b : X} {l m : List X} → a ∷ l ≡ b ∷ m → l ≡ m
    tails e = cc

same_length : (old new : List Caller) → AreSame old new → length new ≡ length old
same_length old new same = sym (length-map new (λ (c : Caller). c.worker)) ∙ (ap (λ (l : List ℕ). length l) same.0 ∙ length-map old (λ (c : Caller). c.worker))

-- the workers are at rest again
pub rest_again : (first first' : Caller) (others others' : List Caller) → AreAtRest (first ∷ others) → StaysTidy first first' → AreSame others others' → AreAtRest (first' ∷ others')
rest_again first first' others others' rest stays same =
    record {
      numbered = numbered;
      tidy = All-cons IsTidy first' others' (stays.1 (All-head IsTidy first others rest.tidy)) (λ k c inside.
          let s = same_at others others' same k c in
          let tidy : HasSettled (get_or others k c).worker (get_or others k c).mine = All-tail IsTidy first others rest.tidy k c (omega (arith, inside, same_length others others' same)) in
          subst (λ (n : ℕ). HasSettled n (get_or others' k c).mine) (sym s.0) (subst (HasSettled (get_or others k c).worker) (sym s.1) tidy));
    }
  where
    numbered : (k : ℕ) (c : Caller) → k < length (first' ∷ others') → (get_or (first' ∷ others') k c).worker ≡ k
    numbered zero c inside = stays.0 ∙ rest.numbered zero c (omega arith)
    numbered (suc k) c inside = (same_at others others' same k c).0 ∙ rest.numbered (suc k) c (omega (arith, inside, same_length others others' same))

-- the same calls of the same worker
pub stays_tidy : (old new : Caller) → new.worker ≡ old.worker → new.mine ≡ old.mine → StaysTidy old new
stays_tidy old new number calls = (number, λ tidy. subst (λ (k : ℕ). HasSettled k new.mine) (sym number) (subst (HasSettled old.worker) (sym calls) tidy))

-- What the first worker has filled after it met all others is all that was left.
pub filled_behind : (m : MoveTable) (workers count : ℕ) (first met done : Caller) (others others' : List Caller) → workers ≡ count → workers ≡ suc (length others) → AreAtRest (first ∷ others)
    → StaysTidy first met → AreSame others others' → All (λ c. BeginsWith (calls_by c.worker met.seen) c.mine) others'
    → done.worker ≡ met.worker → IsTidy done → BeginsWith done.seen met.seen → AreSettledAtRest m count met.worker met.seen done.seen → IsFilled m workers (done ∷ others')
filled_behind m workers count first met done others others' whole all_there rest stays same hears number tidy later settled =
    rest_is_filled m workers (done ∷ others') met.seen done.seen (omega (arith, all_there, same_length others others' same)) rest' others_heard later settled'
    (λ log all. (all zero done (omega arith)).0)
  where
    ready : AreAtRest (met ∷ others')
    ready = rest_again first met others others' rest stays same

    rest' : AreAtRest (done ∷ others')
    rest' = rest_again met done others' others' ready (number, λ _. tidy) (refl, refl)

    settled' : AreSettledAtRest m workers 0 met.seen done.seen
    settled' = subst (λ (k : ℕ). AreSettledAtRest m k 0 met.seen done.seen) (sym whole)
        (subst (λ (w : ℕ). AreSettledAtRest m count w met.seen done.seen) (ready.numbered zero met (omega arith)) settled)

    others_heard : (w : ℕ) (c : Caller) → w ≢ 0 → w < length (done ∷ others') → BeginsWith (calls_by w met.seen) (get_or (done ∷ others') w c).mine
    others_heard zero c apart inside = absurd (apart refl)
    others_heard (suc k) c apart inside =
        subst (λ (n : ℕ). BeginsWith (calls_by n met.seen) (get_or others' k c).mine) (rest'.numbered (suc k) c inside) (hears k c (omega arith))

-- three facts of a success, and what follows from them
pub on_ok : {A E : Type 0} (result : Result A E) (P Q R T : Type 0) → (P → Q → R → T) → OnOk result P → OnOk result Q → OnOk result R → OnOk result T
on_ok (Ok a) P Q R T follows p q r = follows p q r
on_ok (Err e) P Q R T follows p q r = tt
