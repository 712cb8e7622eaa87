-- The causes of a collection's fault.
use Rattle.std.proofs.Common.{◌≡◌, ℕ, ◌<◌, List, ◌++◌, length, take, get_or, ap, ◌∙◌, subst, Err}
use Rattle.std.specs.Prelude.{All, IfErr}
use Rattle.std.proofs.Math.Seq.{take-append_seam}
use Rattle.image_streams.specs.declared.fault.Fault.{Fault}
use Rattle.collector.specs.declared.workers.worker.Worker.{Worker}
use Rattle.collector.specs.declared.workers.end.End.TheVariants.{Failed}
use Rattle.collector.specs.Halts.{MayEndEarly}

-- a worker that failed has its fault in the list
abbrev pub HasFailed : List Worker → Fault → Type 0
HasFailed workers fault = (k : ℕ) × (w : Worker) × (k < length workers) × (get_or workers k w ≡ w) × (w.result ≡ Err (Failed fault))

-- the front of a longer list
pub front_of : {X : Type 0} (n : ℕ) (xs rest : List X) → n ≡ length xs → take n (xs ++ rest) ≡ xs
front_of n xs rest whole = ap (λ (k : ℕ). take k (xs ++ rest)) whole ∙ take-append_seam xs rest

-- a fault that a worker met has one of the causes of a halt
pub cause_of : (may_refuse : ℕ → Type 0) (regions : ℕ) (workers : List Worker) (fault : Fault)
    → All (λ w. IfErr w.result (MayEndEarly may_refuse regions)) workers → HasFailed workers fault → MayEndEarly may_refuse regions (Failed fault)
cause_of may_refuse regions workers fault causes failed =
    subst (λ e. IfErr e (MayEndEarly may_refuse regions)) failed.4
    (subst (λ (w : Worker). IfErr w.result (MayEndEarly may_refuse regions)) failed.3 (causes failed.0 failed.1 failed.2))
