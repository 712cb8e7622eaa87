-- Lists of workers, one of which is replaced after a call.
use Rattle.std.proofs.Common.{◌≡◌, ◌≢◌, ◌⊎◌, ℕ, zero, suc, ◌<◌, List, [], ◌∷◌, length, get_or, set, sym, ap, ◌∙◌, subst, inl, inr, arith}
use Rattle.std.specs.Prelude.{All, map}
use Rattle.std.proofs.lemmas.Bool.{cases_eq}
use Rattle.std.proofs.lemmas.List.{length-map, get_or-map, get_or-set_same, get_or-set_other}
use Rattle.std.proofs.lemmas.List.Elements.{All-map}
use Rattle.claim_board.specs.Boards.{worker, mine, caller}
use Rattle.claim_board.specs.Callers.{Caller}
use Rattle.collector.specs.declared.workers.worker.Worker.{Worker}
use Rattle.collector.specs.Rest.{IsTidy, AreAtRest, AreSame, callers_of}

-- what holds of the new element, and of each other one, holds where one element was replaced
pub placed : {X : Type 0} (P : ℕ → X → Type 0) (xs : List X) (i : ℕ) (y : X) (k : ℕ) (w : X) → i < length xs → P i y → (k ≢ i → P k (get_or xs k w)) → P k (get_or (set xs i y) k w)
placed P xs i y k w inside here other = go (cases_eq k i)
  where
    go : (k ≡ i) ⊎ (k ≡ i → ⊥) → P k (get_or (set xs i y) k w)
    go (inl same) = subst (λ (j : ℕ). P j (get_or (set xs i y) j w)) (sym same) (subst (P i) (sym (get_or-set_same xs i y w inside)) here)
    go (inr apart) = subst (P k) (sym (get_or-set_other xs i k y w apart)) (other apart)

-- what holds of each element under a map holds of each of the mapped list
pub mapped : {X Y : Type 0} (P : ℕ → Y → Type 0) (f : X → Y) (xs : List X) → ((k : ℕ) (w : X) → k < length xs → P k (f (get_or xs k w)))
    → (k : ℕ) (c : Y) → k < length (map f xs) → P k (get_or (map f xs) k c)
mapped P f [] each k c inside = absurd (omega arith)
mapped P f (x ∷ xs) each k c inside =
    let below : k < length (x ∷ xs) = omega (arith, inside, length-map (x ∷ xs) f) in
    subst (P k) (sym (get_or-map f (x ∷ xs) k x c below)) (each k x below)

-- the callers are at rest if each worker is
pub at_rest : (workers : List Worker) → ((k : ℕ) (w : Worker) → k < length workers → (caller (get_or workers k w).seat.pass).worker ≡ k)
    → All (λ w. IsTidy (caller w.seat.pass)) workers → AreAtRest (callers_of workers)
at_rest workers numbered tidy =
    record {
      numbered = mapped (λ (k : ℕ) (c : Caller). c.worker ≡ k) (λ (w : Worker). caller w.seat.pass) workers numbered;
      tidy = All-map IsTidy (λ (w : Worker). caller w.seat.pass) workers tidy;
    }

-- a worker is replaced by itself with the same calls
pub same_set : (workers : List Worker) (i : ℕ) (y w : Worker) → i < length workers → worker y.seat.pass ≡ worker (get_or workers i w).seat.pass
    → mine y.seat.pass ≡ mine (get_or workers i w).seat.pass → AreSame (callers_of workers) (callers_of (set workers i y))
same_set [] i y w inside number calls = absurd (omega arith)
same_set (x ∷ xs) zero y w inside number calls =
    (ap (λ (k : ℕ). k ∷ map (λ (c : Caller). c.worker) (callers_of xs)) number, ap (λ l. l ∷ map (λ (c : Caller). c.mine) (callers_of xs)) calls)
same_set (x ∷ xs) (suc i) y w inside number calls =
    let rest = same_set xs i y w (omega arith) number calls in
    (ap (λ (l : List ℕ). worker x.seat.pass ∷ l) rest.0, ap (λ l. mine x.seat.pass ∷ l) rest.1)

pub same_all : (a b c : List Caller) → AreSame a b → AreSame b c → AreSame a c
same_all a b c ab bc = (bc.0 ∙ ab.0, bc.1 ∙ ab.1)
