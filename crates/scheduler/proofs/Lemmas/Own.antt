-- What a worker's own calls say about the regions that it claimed.
use Rattle.std.proofs.Common.{◌≡◌, ◌≢◌, ℕ, Bool, cond, List, [], ◌∷◌, Option, Some, None, refl, sym, ap, ◌∙◌, subst, inl, inr, ◌⊎◌}
use Rattle.std.specs.Prelude.{if◌then◌else◌, ◌==◌, ◌&&◌, ◌||◌}
use Rattle.std.proofs.lemmas.Bool.{cases_eq, eq-eqb, ne_eqb, false_from_ne_true}
use Rattle.scheduler.specs.MoveTable.{MoveTable}
use Rattle.scheduler.specs.State.{State, opening, state_after, IsStep}
use Rattle.scheduler.specs.History.{state_from, state_of, AreSteps, IsLegal, IsReached, TellsOwn, AgreeOn, calls_by}
use Rattle.scheduler.specs.declared.event.Event.{Event}
use Rattle.scheduler.specs.declared.event.Event.TheVariants.{Claim, Look, Drain, Complete, Settle, Poll, Copy}
use Rattle.scheduler.specs.declared.reply.Reply.{Reply}
use Rattle.scheduler.specs.declared.reply.Reply.TheVariants.{Yes}
use Rattle.scheduler.specs.declared.entry.Entry.{Entry}
use Rattle.scheduler.proofs.Lemmas.Reaches.{MayClaim, grant_tells, step_reached, opening_reached}

-- the worker claimed the region and its own calls determine its state, or it didn't and they say nothing
abbrev Told : ℕ → State → State → ℕ → Type 0
Told w own now d = ((now.claimed d ≡ Some w) × AgreeOn d own now) ⊎ ((now.claimed d ≢ Some w) × AgreeOn d own opening)

same : (d : ℕ) (st : State) → AgreeOn d st st
same d st = record { claimed = refl; filled = refl; settled = refl; drained = λ s. refl }

some_same : (x y : ℕ) → Some x ≡ Some y → x ≡ y
some_same x y e = cc

some_none : (x : ℕ) (o : Option ℕ) → o ≡ Some x → o ≡ None → ⊥
some_none x o e f = let g : Some x ≡ None = sym e ∙ f in cc

-- an unclaimed region is as at the opening
unset : (m : MoveTable) (now : State) (d : ℕ) → IsReached m now → now.claimed d ≡ None → AgreeOn d now opening
unset m now d reached none =
    record {
      claimed = none;
      filled = false_from_ne_true (now.filled d) (λ e. reached.filled_claimed d e none);
      settled = false_from_ne_true (now.settled d) (λ e. reached.filled_claimed d (reached.settled_filled d e) none);
      drained = λ s. false_from_ne_true (now.drained d s) (λ e. reached.drained_claimed d s e none);
    }

through : (d : ℕ) (a b c : State) → AgreeOn d a b → AgreeOn d b c → AgreeOn d a c
through d a b c x y = record { claimed = x.claimed ∙ y.claimed; filled = x.filled ∙ y.filled; settled = x.settled ∙ y.settled; drained = λ s. x.drained s ∙ y.drained s }

back : (d : ℕ) (a b : State) → AgreeOn d a b → AgreeOn d b a
back d a b x = record { claimed = sym x.claimed; filled = sym x.filled; settled = sym x.settled; drained = λ s. sym (x.drained s) }

-- two states that agree, once both took a claim of the region
claimed_both : (w d r : ℕ) (own now : State) → AgreeOn d own now → AgreeOn d (state_after own w (Claim r) Yes) (state_after now w (Claim r) Yes)
claimed_both w d r own now a = record { claimed = ap (λ (o : Option ℕ). if d == r then Some w else o) a.claimed; filled = a.filled; settled = a.settled; drained = a.drained }

-- a claim elsewhere
claimed_apart : (w d r : ℕ) (now : State) → d ≢ r → AgreeOn d (state_after now w (Claim r) Yes) now
claimed_apart w d r now apart = record { claimed = rw (ne_eqb d r apart) refl; filled = refl; settled = refl; drained = λ s. refl }

-- a granted claim found the region as at the opening
grant_free : (m : MoveTable) (now : State) (x r : ℕ) → IsStep m now x (Claim r) Yes (state_after now x (Claim r) Yes) → MayClaim m now r
grant_free m now x r step = grant_tells m now (Claim r) Yes r step.replied (rw (eq-eqb r r refl) refl)

-- the worker's own call
told_mine : (m : MoveTable) (w : ℕ) (own now : State) (event : Event) (reply : Reply) → IsReached m now → IsStep m now w event reply (state_after now w event reply) → ((d : ℕ) → Told w own now d)
    → (d : ℕ) → Told w (state_after own w event reply) (state_after now w event reply) d
told_mine m w own now (Claim r) Yes reached step told d = go (cases_eq d r) (told d)
  where
    may : MayClaim m now r
    may = grant_free m now w r step

    go : (d ≡ r) ⊎ (d ≡ r → ⊥) → Told w own now d → Told w (state_after own w (Claim r) Yes) (state_after now w (Claim r) Yes) d
    go (inl e) (inl t) = absurd (some_none w (now.claimed d) t.0 (ap now.claimed e ∙ may.unclaimed))
    go (inl e) (inr t) = inl (rw (eq-eqb d r e) refl, claimed_both w d r own now (through d own opening now t.1 (back d now opening (unset m now d reached (ap now.claimed e ∙ may.unclaimed)))))
    go (inr n) (inl t) = inl ((claimed_apart w d r now n).claimed ∙ t.0, claimed_both w d r own now t.1)
    go (inr n) (inr t) = inr ((λ e. t.0 (sym (claimed_apart w d r now n).claimed ∙ e)), through d (state_after own w (Claim r) Yes) own opening (claimed_apart w d r own n) t.1)
told_mine m w own now (Claim r) reply reached step told d = told d
told_mine m w own now (Look r) reply reached step told d = told d
told_mine m w own now Poll reply reached step told d = told d
told_mine m w own now (Copy e n) reply reached step told d = told d
told_mine m w own now (Drain e t) reply reached step told d = go (cases_eq d e) (told d)
  where
    go : (d ≡ e) ⊎ (d ≡ e → ⊥) → Told w own now d → Told w (state_after own w (Drain e t) reply) (state_after now w (Drain e t) reply) d
    go c (inl h) = inl (h.0, record { claimed = h.1.claimed; filled = h.1.filled; settled = h.1.settled; drained = λ s. ap (λ (b : Bool). (d == e && s == t) || b) (h.1.drained s) })
    go (inl c) (inr h) = absurd (h.0 (ap now.claimed c ∙ step.allowed.0.0))
    go (inr n) (inr h) = inr (h.0, record { claimed = h.1.claimed; filled = h.1.filled; settled = h.1.settled; drained = λ s. ap (λ (b : Bool). (b && s == t) || own.drained d s) (ne_eqb d e n) ∙ h.1.drained s })
told_mine m w own now (Complete e) reply reached step told d = go (cases_eq d e) (told d)
  where
    go : (d ≡ e) ⊎ (d ≡ e → ⊥) → Told w own now d → Told w (state_after own w (Complete e) reply) (state_after now w (Complete e) reply) d
    go c (inl h) = inl (h.0, record { claimed = h.1.claimed; filled = ap (λ (b : Bool). d == e || b) h.1.filled; settled = h.1.settled; drained = h.1.drained })
    go (inl c) (inr h) = absurd (h.0 (ap now.claimed c ∙ step.allowed.0.0))
    go (inr n) (inr h) = inr (h.0, record { claimed = h.1.claimed; filled = ap (λ (b : Bool). b || own.filled d) (ne_eqb d e n) ∙ h.1.filled; settled = h.1.settled; drained = h.1.drained })
told_mine m w own now (Settle e) reply reached step told d = go (cases_eq d e) (told d)
  where
    go : (d ≡ e) ⊎ (d ≡ e → ⊥) → Told w own now d → Told w (state_after own w (Settle e) reply) (state_after now w (Settle e) reply) d
    go c (inl h) = inl (h.0, record { claimed = h.1.claimed; filled = h.1.filled; settled = ap (λ (b : Bool). d == e || b) h.1.settled; drained = h.1.drained })
    go (inl c) (inr h) = absurd (h.0 (ap now.claimed c ∙ step.allowed.0))
    go (inr n) (inr h) = inr (h.0, record { claimed = h.1.claimed; filled = h.1.filled; settled = ap (λ (b : Bool). b || own.settled d) (ne_eqb d e n) ∙ h.1.settled; drained = h.1.drained })

-- another worker's call
told_other : (m : MoveTable) (w x : ℕ) (own now : State) (event : Event) (reply : Reply) → x ≢ w → IsReached m now → IsStep m now x event reply (state_after now x event reply) → ((d : ℕ) → Told w own now d)
    → (d : ℕ) → Told w own (state_after now x event reply) d
told_other m w x own now (Claim r) Yes apart reached step told d = go (cases_eq d r) (told d)
  where
    go : (d ≡ r) ⊎ (d ≡ r → ⊥) → Told w own now d → Told w own (state_after now x (Claim r) Yes) d
    go (inl e) (inl t) = absurd (some_none w (now.claimed d) t.0 (ap now.claimed e ∙ (grant_free m now x r step).unclaimed))
    go (inl e) (inr t) = inr ((λ own'. apart (some_same x w (sym (ap (λ (b : Bool). if b then Some x else now.claimed d) (eq-eqb d r e)) ∙ own'))), t.1)
    go (inr n) (inl t) = inl ((claimed_apart x d r now n).claimed ∙ t.0, through d own now (state_after now x (Claim r) Yes) t.1 (back d (state_after now x (Claim r) Yes) now (claimed_apart x d r now n)))
    go (inr n) (inr t) = inr ((λ e. t.0 (sym (claimed_apart x d r now n).claimed ∙ e)), t.1)
told_other m w x own now (Claim r) reply apart reached step told d = told d
told_other m w x own now (Look r) reply apart reached step told d = told d
told_other m w x own now Poll reply apart reached step told d = told d
told_other m w x own now (Copy e n) reply apart reached step told d = told d
told_other m w x own now (Drain e t) reply apart reached step told d = go (cases_eq d e) (told d)
  where
    go : (d ≡ e) ⊎ (d ≡ e → ⊥) → Told w own now d → Told w own (state_after now x (Drain e t) reply) d
    go (inl c) (inl h) = absurd (apart (some_same x w (sym step.allowed.0.0 ∙ (ap now.claimed (sym c) ∙ h.0))))
    go (inr n) (inl h) = inl (h.0, record { claimed = h.1.claimed; filled = h.1.filled; settled = h.1.settled; drained = λ s. h.1.drained s ∙ sym (ap (λ (b : Bool). (b && s == t) || now.drained d s) (ne_eqb d e n)) })
    go c (inr h) = inr h
told_other m w x own now (Complete e) reply apart reached step told d = go (cases_eq d e) (told d)
  where
    go : (d ≡ e) ⊎ (d ≡ e → ⊥) → Told w own now d → Told w own (state_after now x (Complete e) reply) d
    go (inl c) (inl h) = absurd (apart (some_same x w (sym step.allowed.0.0 ∙ (ap now.claimed (sym c) ∙ h.0))))
    go (inr n) (inl h) = inl (h.0, record { claimed = h.1.claimed; filled = h.1.filled ∙ sym (ap (λ (b : Bool). b || now.filled d) (ne_eqb d e n)); settled = h.1.settled; drained = h.1.drained })
    go c (inr h) = inr h
told_other m w x own now (Settle e) reply apart reached step told d = go (cases_eq d e) (told d)
  where
    go : (d ≡ e) ⊎ (d ≡ e → ⊥) → Told w own now d → Told w own (state_after now x (Settle e) reply) d
    go (inl c) (inl h) = absurd (apart (some_same x w (sym step.allowed.0 ∙ (ap now.claimed (sym c) ∙ h.0))))
    go (inr n) (inl h) = inl (h.0, record { claimed = h.1.claimed; filled = h.1.filled; settled = h.1.settled ∙ sym (ap (λ (b : Bool). b || now.settled d) (ne_eqb d e n)); drained = h.1.drained })
    go c (inr h) = inr h

-- one call more, whoever made it
told_step : (m : MoveTable) (w : ℕ) (own now : State) (e : Entry) (es : List Entry) → IsReached m now → IsStep m now e.worker e.event e.reply (state_after now e.worker e.event e.reply) → ((d : ℕ) → Told w own now d)
    → (own' : State) × (state_from own (calls_by w (e ∷ es)) ≡ state_from own' (calls_by w es)) × ((d : ℕ) → Told w own' (state_after now e.worker e.event e.reply) d)
told_step m w own now e es reached step told = go (cases_eq e.worker w)
  where
    go : (e.worker ≡ w) ⊎ (e.worker ≡ w → ⊥)
        → (own' : State) × (state_from own (calls_by w (e ∷ es)) ≡ state_from own' (calls_by w es)) × ((d : ℕ) → Told w own' (state_after now e.worker e.event e.reply) d)
    go (inr n) = (own, ap (λ (b : Bool). state_from own (cond b (e ∷ calls_by w es) (calls_by w es))) (ne_eqb e.worker w n), told_other m w e.worker own now e.event e.reply n reached step told)
    go (inl c) = (
      state_after own e.worker e.event e.reply,
      ap (λ (b : Bool). state_from own (cond b (e ∷ calls_by w es) (calls_by w es))) (eq-eqb e.worker w c),
      subst (λ (x : ℕ). (d : ℕ) → Told w (state_after own x e.event e.reply) (state_after now x e.event e.reply) d) (sym c)
          (told_mine m w own now e.event e.reply reached (subst (λ (x : ℕ). IsStep m now x e.event e.reply (state_after now x e.event e.reply)) c step) told),
    )

told_from : (m : MoveTable) (workers w : ℕ) (own now : State) (log : List Entry) → IsReached m now → AreSteps m workers now log → ((d : ℕ) → Told w own now d)
    → (d : ℕ) → Told w (state_from own (calls_by w log)) (state_from now log) d
told_from m workers w own now [] reached steps told = told
told_from m workers w own now (e ∷ es) reached steps told =
    let now' = state_after now e.worker e.event e.reply in
    let one = told_step m w own now e es reached steps.1 told in
    let rest = told_from m workers w one.0 now' es (step_reached m now e.worker e.event e.reply reached steps.1) steps.2 one.2 in
    λ d. subst (λ (st : State). Told w st (state_from now' es) d) (sym one.1) (rest d)

pub own_calls : (m : MoveTable) (workers w : ℕ) (log : List Entry) → IsLegal m workers log → TellsOwn w (state_of (calls_by w log)) (state_of log)
own_calls m workers w log legal =
    record {
      claimed = λ d mine. first d mine (all d);
      others = λ d mine. second d mine (all d);
    }
  where
    all : (d : ℕ) → Told w (state_of (calls_by w log)) (state_of log) d
    all = told_from m workers w opening opening log (opening_reached m) legal (λ d. inr ((λ e. some_none w None e refl), same d opening))

    first : (d : ℕ) → (state_of log).claimed d ≡ Some w → Told w (state_of (calls_by w log)) (state_of log) d → AgreeOn d (state_of (calls_by w log)) (state_of log)
    first d mine (inl t) = t.1
    first d mine (inr t) = absurd (t.0 mine)

    second : (d : ℕ) → ((state_of log).claimed d ≡ Some w → ⊥) → Told w (state_of (calls_by w log)) (state_of log) d → AgreeOn d (state_of (calls_by w log)) opening
    second d mine (inl t) = absurd (mine t.0)
    second d mine (inr t) = t.1
