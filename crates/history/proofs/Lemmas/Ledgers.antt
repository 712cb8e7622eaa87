-- Ledgers: one step more.
use Rattle.std.proofs.Common.{◌≡◌, ◌≢◌, ℕ, zero, suc, ◌+◌, ◌*◌, ◌%◌, ◌^◌, ◌<◌, ◌≤◌, true, false, List, length, Option, Some, None, refl, sym, ap, ◌∙◌, subst, inl, inr, ◌⊎◌, arith}
use Rattle.std.specs.Prelude.{◌==◌, if◌then◌else◌, slice_index, slice_set}
use Rattle.std.proofs.lemmas.Bool.{eq-eqb, ne_eqb, cases_lt}
use Rattle.std.proofs.lemmas.Nat.{div-add-mod', mul-le, pow_below}
use Rattle.std.proofs.lemmas.List.{get_or-set_other}
use Rattle.std.proofs.lemmas.Grind.{get_or-set_at}
use Rattle.object_heap.specs.HeapImage.{HeapImage, IsValid, heap_words, region_words, region_count}
use Rattle.scheduler.specs.MoveTable.{MoveTable}
use Rattle.scheduler.specs.State.{State, Allows, IsStep, state_after}
use Rattle.scheduler.specs.History.{entry}
use Rattle.scheduler.specs.Scheduler.{state_in}
use Rattle.history.specs.Slide.{Slide, Machine, words_of, write_words, copied, AllowsWords, IsMachineStep}
use Rattle.scheduler.specs.ImageMoves.{image_table}
use Rattle.history.specs.WordMachine.{image_slide}
use Rattle.history.specs.Replay.{IsCallOfLine}
use Rattle.history.specs.Ledger.{IsLedger, Tells, Leads, RefusesLine, HasCause, AreWrittenBy}
use Rattle.scheduler.specs.declared.entry.Entry.{Entry}
use Rattle.scheduler.specs.declared.event.Event.{Event}
use Rattle.scheduler.specs.declared.event.Event.TheVariants.{Claim, Look, Drain, Complete, Settle, Poll, Copy}
use Rattle.history.specs.declared.machine.ledger.Ledger.{Ledger}
use Rattle.scheduler.specs.declared.schedule.line.Line.{Line}
use Rattle.history.specs.declared.machine.line_cause.LineCause.TheVariants.{OtherReply}
use Rattle.scheduler.specs.declared.reply.Reply.{Reply}
use Rattle.history.proofs.Lemmas.Drained.{choice_cases}
use Rattle.summary.specs.PlanLaws.{PlanLaws}

-- a machine of the ledger
abbrev pub told_by : Ledger → Machine
told_by ledger = record { known = state_in ledger.scheduler; heap = λ a. 0; written = λ r. slice_index ledger.written.items r }

pub tells_told : (ledger : Ledger) → Tells ledger (told_by ledger)
tells_told ledger = record { known = refl; written = λ r. refl }

-- how many words are written after a copy
pub written-copy : (p : Slide) (d n r : ℕ) (w : Machine) → (write_words p d n w).written r ≡ (if r == d then w.written r + n else w.written r)
written-copy p d zero r w = go (choice_cases r d (w.written r + 0) (w.written r))
  where
    go : ((r ≡ d) × ((if r == d then w.written r + 0 else w.written r) ≡ w.written r + 0)) ⊎ ((r ≢ d) × ((if r == d then w.written r + 0 else w.written r) ≡ w.written r)) → w.written r ≡ (if r == d then w.written r + 0 else w.written r)
    go (inl h) = rw h.1 (omega arith)
    go (inr h) = sym h.1
written-copy p d (suc n) r w = go (choice_cases r d (w.written r + suc n) (w.written r)) (written-copy p d n r w)
  where
    go : ((r ≡ d) × ((if r == d then w.written r + suc n else w.written r) ≡ w.written r + suc n)) ⊎ ((r ≢ d) × ((if r == d then w.written r + suc n else w.written r) ≡ w.written r))
        → (write_words p d n w).written r ≡ (if r == d then w.written r + n else w.written r)
        → (write_words p d (suc n) w).written r ≡ (if r == d then w.written r + suc n else w.written r)
    go (inl h) before = let e : (r == d) ≡ true = eq-eqb r d h.0 in rw e (let b : (write_words p d n w).written r ≡ w.written r + n = rw e at before in omega arith)
    go (inr h) before = let e : (r == d) ≡ false = ne_eqb r d h.0 in rw e (rw e at before)

-- a copy that the words allow is of a region of the heap, and the count has room
pub copy_fits : PlanLaws → (image : HeapImage) → IsValid image → (d n written : ℕ) → 1 ≤ n → written + n ≤ words_of (image_slide image) d → (d < region_count image) × (written + n < 2 ^ 32)
copy_fits law image valid d n written some room =
    let whole = div-add-mod' (heap_words image) (region_words image) in
    let none : heap_words image % region_words image ≡ 0 = valid.limits.whole_regions in
    let top = law.top-le image valid.live_list in
    let high = valid.limits.region_log_high in
    let short : region_words image < 2 ^ 21 = pow_below image.region_log 21 (omega arith) in
    let inside : d < region_count image = elim (cases_lt d (region_count image)) [
      | inl fine ↦ fine
      | inr past ↦
          let up : region_count image * region_words image ≤ d * region_words image = mul-le (region_count image) (region_words image) d (region_words image) past (omega arith) in
          let no : ⊥ = omega arith in absurd no
    ] in
    (inside, omega arith)

-- an allowed copy, of a ledger
pub copy_room : PlanLaws → (image : HeapImage) → IsValid image → (workers : ℕ) (ledger : Ledger) (worker : ℕ) (event : Event) → IsLedger image workers ledger
    → Allows ledger.scheduler.moves (state_in ledger.scheduler) worker event → ((w : Machine) → Tells ledger w → AllowsWords (image_slide image) w event)
    → (d n : ℕ) → event ≡ Copy d n → (d < length ledger.written.items) × (slice_index ledger.written.items d + n < 2 ^ 32)
copy_room law image valid workers ledger worker event kept allowed words d n is =
    let some : Allows ledger.scheduler.moves (state_in ledger.scheduler) worker (Copy d n) = subst (λ (e : Event). Allows ledger.scheduler.moves (state_in ledger.scheduler) worker e) is allowed in
    let room : AllowsWords (image_slide image) (told_by ledger) (Copy d n) = subst (λ (e : Event). AllowsWords (image_slide image) (told_by ledger) e) is (words (told_by ledger) (tells_told ledger)) in
    let fits = copy_fits law image valid d n (slice_index ledger.written.items d) some.1 room in
    let inside : d < length ledger.written.items = let all = kept.all in let l = fits.0 in omega arith in
    (inside, fits.1)

-- the step of the scheduler as a step of the machine's
step_of : (m m' : MoveTable) (now known : State) (worker : ℕ) (event : Event) (reply : Reply) (new : State) → m ≡ m' → known ≡ now → IsStep m now worker event reply new
    → IsStep m' known worker event reply (state_after known worker event reply)
step_of m m' now known worker event reply new moves same step =
    subst (λ (k : State). IsStep m' k worker event reply (state_after k worker event reply)) (sym same)
    (subst (λ (t : MoveTable). IsStep t now worker event reply (state_after now worker event reply)) moves (record { allowed = step.allowed; replied = step.replied; after = refl }))

module _ (image : HeapImage) (old new : Ledger) (w : Machine) (tells : Tells old w) where
  -- the counts after the event
  noted : (event : Event) → ((d n : ℕ) → event ≡ Copy d n → d < length old.written.items) → AreWrittenBy event old.written.items new.written.items
      → (r : ℕ) → (copied (image_slide image) w event).written r ≡ slice_index new.written.items r
  noted (Claim d) inside same r = tells.written r ∙ ap (λ (ns : List ℕ). slice_index ns r) (sym same)
  noted (Look d) inside same r = tells.written r ∙ ap (λ (ns : List ℕ). slice_index ns r) (sym same)
  noted (Drain d s) inside same r = tells.written r ∙ ap (λ (ns : List ℕ). slice_index ns r) (sym same)
  noted (Complete d) inside same r = tells.written r ∙ ap (λ (ns : List ℕ). slice_index ns r) (sym same)
  noted (Settle d) inside same r = tells.written r ∙ ap (λ (ns : List ℕ). slice_index ns r) (sym same)
  noted Poll inside same r = tells.written r ∙ ap (λ (ns : List ℕ). slice_index ns r) (sym same)
  noted (Copy d n) inside same r = written-copy (image_slide image) d n r w ∙ (go (choice_cases r d (w.written r + n) (w.written r)) ∙ ap (λ (ns : List ℕ). slice_index ns r) (sym same))
    where
      within : d < length old.written.items
      within = inside d n refl

      go : ((r ≡ d) × ((if r == d then w.written r + n else w.written r) ≡ w.written r + n)) ⊎ ((r ≢ d) × ((if r == d then w.written r + n else w.written r) ≡ w.written r))
          → (if r == d then w.written r + n else w.written r) ≡ slice_index (slice_set old.written.items d (slice_index old.written.items d + n)) r
      go (inl h) = h.1 ∙ (ap (λ (k : ℕ). k + n) (tells.written r ∙ ap (slice_index old.written.items) h.0) ∙ sym (get_or-set_at old.written.items d r (slice_index old.written.items d + n) 0 h.0 within))
      go (inr h) = h.1 ∙ (tells.written r ∙ sym (get_or-set_other old.written.items d r (slice_index old.written.items d + n) 0 h.0))

-- the ledger leads where the scheduler does, if the words allow the event
pub ledger_leads : (image : HeapImage) (workers : ℕ) (old new : Ledger) (worker : ℕ) (event : Event) (reply : Reply)
    → IsLedger image workers old → worker < workers → IsStep old.scheduler.moves (state_in old.scheduler) worker event reply (state_in new.scheduler)
    → ((w : Machine) → Tells old w → AllowsWords (image_slide image) w event)
    → ((d n : ℕ) → event ≡ Copy d n → d < length old.written.items) → AreWrittenBy event old.written.items new.written.items
    → Leads image workers old (entry worker event reply) new
ledger_leads image workers old new worker event reply kept few step words inside counts w tells = (
  (few, step_of old.scheduler.moves (image_table image) (state_in old.scheduler) w.known worker event reply (state_in new.scheduler) kept.moves tells.known step, words w tells),
  record {
    known = ap (λ (k : State). state_after k worker event reply) tells.known ∙ sym step.after;
    written = noted image old new w tells event inside counts;
  },
)

-- where the scheduler doesn't allow the event, it is no step
pub scheduler_refuses : (image : HeapImage) (workers : ℕ) (old : Ledger) (worker : ℕ) (event : Event) → IsLedger image workers old → ¬ (Allows old.scheduler.moves (state_in old.scheduler) worker event)
    → (w : Machine) → Tells old w → (reply : Reply) → ¬ (IsMachineStep (image_table image) (image_slide image) workers w (entry worker event reply))
scheduler_refuses image workers old worker event kept not w tells reply step =
    not (subst (λ (t : MoveTable). Allows t (state_in old.scheduler) worker event) (sym kept.moves) (subst (λ (k : State). Allows (image_table image) k worker event) tells.known step.1.allowed))

-- the call of a line is determined by its reply
call_is : (line : Line) (e : Entry) → IsCallOfLine line e → e ≡ entry line.worker line.event e.reply
call_is line e is = let a = is.worker in let b = is.event in go e.worker line.worker e.event line.event a b
  where
    go : (x y : ℕ) (f g : Event) → x ≡ y → f ≡ g → entry x f e.reply ≡ entry y g e.reply
    go x y f g a b = cc

-- where no reply makes a step of it, the line is refused
pub event_refused : (image : HeapImage) (workers : ℕ) (old : Ledger) (line : Line)
    → ((w : Machine) → Tells old w → (reply : Reply) → ¬ (IsMachineStep (image_table image) (image_slide image) workers w (entry line.worker line.event reply)))
    → RefusesLine image workers old line
event_refused image workers old line none w tells e is step =
    none w tells e.reply (subst (λ (f : Entry). IsMachineStep (image_table image) (image_slide image) workers w f) (call_is line e is) step)

some_told : (told reply : Reply) (o : Option Reply) → o ≡ Some told → (o ≡ None) ⊎ (o ≡ Some reply) → told ≡ reply
some_told told reply o is (inl none) = let f : Some told ≡ None = sym is ∙ none in cc
some_told told reply o is (inr some) = let f : Some told ≡ Some reply = sym is ∙ some in cc

-- a line whose reply isn't the machine's is refused
pub reply_refused : (image : HeapImage) (workers : ℕ) (old new : Ledger) (line : Line) (told reply : Reply) → line.reply ≡ Some told → told ≢ reply
    → Leads image workers old (entry line.worker line.event reply) new → RefusesLine image workers old line
reply_refused image workers old new line told reply is other leads w tells e call step =
    let own : IsMachineStep (image_table image) (image_slide image) workers w (entry line.worker line.event reply) = (leads w tells).0 in
    let step' : IsMachineStep (image_table image) (image_slide image) workers w (entry line.worker line.event e.reply) =
    subst (λ (f : Entry). IsMachineStep (image_table image) (image_slide image) workers w f) (call_is line e call) step in
    let same : e.reply ≡ reply = step'.1.replied ∙ sym own.1.replied in
    other (some_told told e.reply line.reply is call.reply ∙ same)

-- and that reply is the cause
pub reply_cause : (image : HeapImage) (workers : ℕ) (old new : Ledger) (line : Line) (told reply : Reply) → line.reply ≡ Some told → told ≢ reply
    → Leads image workers old (entry line.worker line.event reply) new → HasCause image workers old line (OtherReply reply)
reply_cause image workers old new line told reply is other leads w tells = ((leads w tells).0, (told, is, other))
