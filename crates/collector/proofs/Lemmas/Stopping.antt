-- Workers that have begun with no calls, and have stopped without a refusal.
use Rattle.std.proofs.Common.{◌≡◌, ℕ, ◌<◌, List, [], ◌∷◌, length, get_or, Result, Ok, Err, Some, None, refl, sym, ap, ◌∙◌, subst, arith}
use Rattle.std.specs.Prelude.{All, map}
use Rattle.std.proofs.lemmas.List.{length-map, get_or-map}
use Rattle.scheduler.specs.declared.entry.Entry.{Entry}
use Rattle.claim_board.specs.declared.pass.Pass.{Pass}
use Rattle.claim_board.specs.declared.regions.region_board.RegionBoard.{RegionBoard}
use Rattle.claim_board.specs.Boards.{caller, worker}
use Rattle.claim_board.specs.Callers.{Caller}
use Rattle.collector.specs.declared.workers.worker.Worker.{Worker}
use Rattle.collector.specs.declared.workers.end.End.{End}
use Rattle.collector.specs.declared.workers.end.End.TheVariants.{Stopped, Failed}
use Rattle.collector.specs.Halts.{met_fault}
use Rattle.collector.specs.Rest.{HasSettled, Rests, Leaves, Ends, AllEnd, AreFresh, AreStopped, AreBare, callers_of}

-- a worker without calls has claimed nothing
none_claimed : (worker : ℕ) (calls : List Entry) → calls ≡ [] → HasSettled worker calls
none_claimed worker calls none = subst (HasSettled worker) (sym none) (λ r claimed. absurd (let f : None ≡ Some worker = claimed in cc))

-- workers on fresh seats
seated : (workers : List Worker) → map caller (map (λ w. w.seat.pass) workers) ≡ callers_of workers
seated [] = refl
seated (w ∷ ws) = ap (λ l. caller w.seat.pass ∷ l) (seated ws)

pub seated_fresh : (workers : List Worker) (passes : List Pass) → map (λ w. w.seat.pass) workers ≡ passes → AreFresh (map caller passes) → AreFresh (callers_of workers)
seated_fresh workers passes same are = subst AreFresh (ap (map caller) (sym same) ∙ seated workers) are

-- a fresh worker is the one of its place, and at rest if it holds nothing
fresh_at : (workers : List Worker) → AreFresh (callers_of workers) → (k : ℕ) (w : Worker) → k < length workers
    → (worker (get_or workers k w).seat.pass ≡ k) × HasSettled (worker (get_or workers k w).seat.pass) (caller (get_or workers k w).seat.pass).mine
fresh_at workers are k w inside =
    let f : Worker → Caller = λ w. caller w.seat.pass in
    let here : get_or (callers_of workers) k (f w) ≡ f (get_or workers k w) = get_or-map f workers k w (f w) inside in
    let below : k < length (callers_of workers) = omega (arith, inside, length-map workers f) in (
      subst (λ (c : Caller). c.worker ≡ k) here (are.numbered k (f w) below),
      none_claimed (f (get_or workers k w)).worker (f (get_or workers k w)).mine (subst (λ (c : Caller). c.mine ≡ []) here (are.quiet k (f w) below).1),
    )

pub fresh_rest : (workers : List Worker) → AreFresh (callers_of workers) → AreBare workers → All (λ w. Rests w.seat.pass) workers
fresh_rest workers are bare k w inside = ((fresh_at workers are k w inside).1, bare k w inside)

-- a worker that hasn't been refused a region itself ends as the same worker, and leaves its regions so
ends_so : (b : RegionBoard) (regions : ℕ) (result : Result Unit End) (old new : Pass) → met_fault result ≡ None → Ends b regions result old new
    → (worker new ≡ worker old) × Leaves b regions result new
unfolding met_fault
ends_so b regions (Ok x) old new none ends = ends
ends_so b regions (Err (Stopped h)) old new none ends = ends
ends_so b regions (Err (Failed fault)) old new none ends = absurd (let f : Some fault ≡ None = none in cc)

-- fresh workers that end so, and meet no fault, are stopped
pub all_stopped : (b : RegionBoard) (regions : ℕ) (old new : List Worker) → length new ≡ length old → AllEnd b regions old new → All (λ w. met_fault w.result ≡ None) new
    → AreFresh (callers_of old) → AreStopped b regions new
all_stopped b regions old new long ends none are =
    record {
      numbered = λ k w inside. (so k w inside).0 ∙ (fresh_at old are k w (omega (arith, inside, long))).0;
      left = λ k w inside. (so k w inside).1;
    }
  where
    so : (k : ℕ) (w : Worker) → k < length new → (worker (get_or new k w).seat.pass ≡ worker (get_or old k w).seat.pass) × Leaves b regions (get_or new k w).result (get_or new k w).seat.pass
    so k w inside = ends_so b regions (get_or new k w).result (get_or old k w).seat.pass (get_or new k w).seat.pass (none k w inside) (ends k w w inside)

-- fresh workers without a region are stopped
pub fresh_stopped : (b : RegionBoard) (regions : ℕ) (workers : List Worker) → AreFresh (callers_of workers) → AreBare workers → All (λ w. w.result ≡ Err (Stopped None)) workers → AreStopped b regions workers
fresh_stopped b regions workers are bare idle =
    record {
      numbered = λ k w inside. (fresh_at workers are k w inside).0;
      left = λ k w inside. subst (λ (r : Result Unit End). Leaves b regions r (get_or workers k w).seat.pass) (sym (idle k w inside)) (fresh_rest workers are bare k w inside);
    }
