use Rattle.std.proofs.Common.{◌≡◌, ℕ, ◌+◌, ◌^◌, ◌<◌, List, length, sym, ap, ◌∙◌, subst, arith}
use Rattle.std.specs.Prelude.{slice_index}
use Rattle.std.specs.Vec.{with_items}
use Rattle.scheduler.specs.declared.event.Event.TheVariants.{Copy}
use Rattle.history.specs.declared.machine.ledger.Ledger.{Ledger}
use Rattle.std.proofs.lemmas.Bool.{false≢true}
use Rattle.std.proofs.lemmas.List.{with_items_is}
use Rattle.history.specs.Slide.{Machine, AllowsWords}
use Rattle.history.specs.WordMachine.{image_slide}
use Rattle.history.specs.Ledger.{Tells, AreWrittenBy}
use Rattle.history.proofs.Lemmas.Ledgers.{copy_room, scheduler_refuses, ledger_leads}
use Rattle.history.proofs.machine.ledger.Ledger.step.Goals as goal
use Rattle.history.proofs.machine.ledger.Ledger.step.Goals.{then-not-allows-via-then-not-allows, then-not-allows-via-else-not-allows+then-not-allows_words}

pub returns-then-not-allows-clause-illegal : goal.returns-then-not-allows-clause-illegal
returns-then-not-allows-clause-illegal c w tells reply step = elim c.then-not-allows.branch [
  | then-not-allows-via-then-not-allows b ↦
      scheduler_refuses c.args.plan.now c.args.self.now.scheduler.workers c.args.self.now c.args.worker c.args.event c.requires.kept
      (λ a. false≢true (sym b.if-not-allows.true ∙ c.allows.ensures.1 a)) w tells reply step
  | then-not-allows-via-else-not-allows+then-not-allows_words b ↦
      false≢true (sym b.if-not-allows_words.true ∙ (b.allows_words.ensures w tells).1 step.2)
]

pub note-requires : goal.note-requires
note-requires c =
    let words : (w : Machine) → Tells c.args.self.now w → AllowsWords (image_slide c.args.plan.now) w c.args.event = λ w tells. (c.allows_words.ensures w tells).0 c.if-not-allows_words.false in
    subst (λ (xs : List ℕ). (d n : ℕ) → c.args.event ≡ Copy d n → (d < length xs) × (slice_index xs d + n < 2 ^ 32)) (sym c.deref_mut.ensures.value)
    (copy_room c.plan_laws.ensures c.args.plan.now c.planned_image_is_valid.ensures c.args.self.now.scheduler.workers c.args.self.now c.args.worker c.args.event c.requires.kept (c.allows.ensures.0 c.if-not-allows.false) words)

pub returns-clause-leads : goal.returns-clause-leads
returns-clause-leads c =
    let image = c.args.plan.now in
    let old : Ledger = c.args.self.now in
    let new : Ledger = record { scheduler = c.step.new.self; written = with_items c.args.self.now.written c.note.new.written } in
    let words : (w : Machine) → Tells old w → AllowsWords (image_slide c.args.plan.now) w c.args.event = λ w tells. (c.allows_words.ensures w tells).0 c.if-not-allows_words.false in
    let room = copy_room c.plan_laws.ensures image c.planned_image_is_valid.ensures old.scheduler.workers old c.args.worker c.args.event c.requires.kept (c.allows.ensures.0 c.if-not-allows.false) words in
    let counts : AreWrittenBy c.args.event old.written.items c.note.new.written = subst (λ (xs : List ℕ). AreWrittenBy c.args.event xs c.note.new.written) c.deref_mut.ensures.value c.note.ensures in
    let long : length c.note.new.written ≡ old.written.len = omega (arith, c.note.auto.written, ap (length {A = ℕ}) c.deref_mut.ensures.value, old.written.ok.0) in
    let items : new.written.items ≡ c.note.new.written = with_items_is old.written c.note.new.written long in
    let counts' : AreWrittenBy c.args.event old.written.items new.written.items = subst (λ (xs : List ℕ). AreWrittenBy c.args.event old.written.items xs) (sym items) counts in
    ledger_leads image old.scheduler.workers old new c.args.worker c.args.event c.in_ok-reply.reply c.requires.kept c.requires.worker c.in_ok-reply.ensures.ok words (λ d n is. (room d n is).0) counts'
