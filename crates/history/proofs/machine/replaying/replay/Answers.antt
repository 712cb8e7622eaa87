use Rattle.std.proofs.Common.{◌≡◌, ℕ, ◌<◌, List, length, sym, ap, ◌∙◌, subst, arith}
use Rattle.std.specs.Prelude.{slice_index, IsTrue, ◌↔◌}
use Rattle.std.proofs.lemmas.Bool.{false≢true}
use Rattle.std.proofs.lemmas.List.{with_items_is}
use Rattle.object_heap.specs.HeapImage.{HeapImage, IsValid, heap_words}
use Rattle.summary.specs.Compaction.{moved_word}
use Rattle.scheduler.specs.State.{AllAreSettled}
use Rattle.scheduler.specs.ImageMoves.{image_table}
use Rattle.history.specs.WordMachine.{machine_of}
use Rattle.history.specs.Replayed.{IsCarriedOut, IsEndOf}
use Rattle.scheduler.specs.declared.entry.Entry.{Entry}
use Rattle.history.specs.declared.machine.replayed.End.{End}
use Rattle.history.proofs.Lemmas.Copies.{settled_heap, replied_schedule, replayed}
use Rattle.history.proofs.machine.replaying.replay.Goals as goal
use Rattle.history.proofs.machine.replaying.replay.Goals.{then-settled+in_ok-finish, else-settled}

pub finish-requires-clause-moved : goal.finish-requires-clause-moved
finish-requires-clause-moved c =
    let image : HeapImage = c.args.image.now in
    let valid : IsValid image = subst IsValid c.in_ok-carrier.ensures.plan c.in_ok-carrier.ensures.kept.valid in
    let all : IsCarriedOut image c.args.schedule.now c.in_ok-lines.lines.items c.in_ok-lines.settled c.carry_out.new.heap =
    subst (λ (i : HeapImage). IsCarriedOut i c.args.schedule.now c.in_ok-lines.lines.items c.in_ok-lines.settled c.carry_out.new.heap) (c.plan-plan.ensures ∙ c.requires.same) c.in_ok-lines.ensures.ok in
    let long : length c.carry_out.new.heap ≡ c.in_ok-heap.heap.len = omega (arith, c.carry_out.auto.heap, ap (length {A = ℕ}) c.deref_mut.ensures.value, c.in_ok-heap.heap.ok.0) in
    let same = with_items_is c.in_ok-heap.heap c.carry_out.new.heap long in
    subst (λ (xs : List ℕ). (a : ℕ) → a < heap_words image → slice_index xs a ≡ moved_word image a) (sym same)
    (settled_heap c.machine_laws.ensures image c.args.schedule.now c.in_ok-lines.lines.items c.carry_out.new.heap c.in_ok-lines.settled valid all c.if-settled.true)

pub of_lines-lines-requires : goal.of_lines-lines-requires
of_lines-lines-requires c =
    let image : HeapImage = c.args.image.now in
    let valid : IsValid image = subst IsValid c.in_ok-carrier.ensures.plan c.in_ok-carrier.ensures.kept.valid in
    let all : IsCarriedOut image c.args.schedule.now c.in_ok-lines.lines.items c.in_ok-lines.settled c.carry_out.new.heap =
    subst (λ (i : HeapImage). IsCarriedOut i c.args.schedule.now c.in_ok-lines.lines.items c.in_ok-lines.settled c.carry_out.new.heap) (c.plan-plan.ensures ∙ c.requires.same) c.in_ok-lines.ensures.ok in
    rw c.workers.ensures.value (replied_schedule c.machine_laws.ensures image c.args.schedule.now c.in_ok-lines.lines.items c.carry_out.new.heap c.in_ok-lines.settled valid c.workers.ensures.formed all)

pub returns-clause-ok : goal.returns-clause-ok
returns-clause-ok c =
    let image : HeapImage = c.args.image.now in
    let valid : IsValid image = subst IsValid c.in_ok-carrier.ensures.plan c.in_ok-carrier.ensures.kept.valid in
    let all : IsCarriedOut image c.args.schedule.now c.in_ok-lines.lines.items c.in_ok-lines.settled c.carry_out.new.heap =
    subst (λ (i : HeapImage). IsCarriedOut i c.args.schedule.now c.in_ok-lines.lines.items c.in_ok-lines.settled c.carry_out.new.heap) (c.plan-plan.ensures ∙ c.requires.same) c.in_ok-lines.ensures.ok in
    let told : c.of_lines-lines.result ≡ record { workers = c.args.schedule.now.workers; lines = c.in_ok-lines.lines.items } = rw c.workers.ensures.value at c.of_lines-lines.ensures in
    let ended : (log : List Entry) → IsTrue c.in_ok-lines.settled ↔ AllAreSettled (image_table image) (machine_of image log).known → IsEndOf image log c.if-settled.ended =
    λ log tells. elim c.if-settled.branch [
      | then-settled+in_ok-finish w ↦ subst (λ (e : End). IsEndOf image log e) (sym w.ended-is) (tells.0 w.if-settled.true, w.in_ok-finish.ensures)
      | else-settled w ↦ subst (λ (e : End). IsEndOf image log e) (sym w.ended-is) (λ settled. false≢true (sym w.if-settled.false ∙ tells.1 settled))
    ] in
    replayed c.machine_laws.ensures image c.args.schedule.now c.in_ok-lines.lines.items c.carry_out.new.heap c.in_ok-lines.settled (record { lines = c.of_lines-lines.result; ended = c.if-settled.ended }) valid all told ended
