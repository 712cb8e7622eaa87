use Rattle.std.proofs.Common.{◌≡◌, false, List, ℕ, length, sym, ◌∙◌, ap, subst, arith}
use Rattle.std.specs.Prelude.{All}
use Rattle.object_heap.specs.HeapImage.{HeapImage}
use Rattle.heap_marking.specs.Rounds.{IsLayout, IsState, HaveTurned, AreExchanged}
use Rattle.heap_marking.specs.declared.marking.part.Part.{Part}
use Rattle.heap_marking.proofs.Lemmas.Turns.{turned_layout, turned_state, written}
use Rattle.heap_marking.proofs.marking.rounds.Rounds.turn.Goals as goal

-- the parts and rows after a round, as the code leaves them
module _ (log log' : ℕ) (image : HeapImage) (parts mid parts' parts'' : List Part) (sent sent' sent'' : List (List (List ℕ)))
    (same : log' ≡ log) (parts_same : parts'' ≡ parts') (sent_same : sent'' ≡ sent') (layout : IsLayout log image parts sent)
    (turned : HaveTurned log image sent parts mid) (fine : All (λ p. p.failed ≡ false) mid) (exchanged : AreExchanged mid parts' sent sent') where
  layout_after : IsLayout log' image parts'' sent''
  layout_after =
      subst (λ n. IsLayout n image parts'' sent'') (sym same)
      (subst (λ xs. IsLayout log image xs sent'') (sym parts_same)
      (subst (λ ys. IsLayout log image parts' ys) (sym sent_same) (turned_layout log image parts mid parts' sent sent' layout turned fine exchanged)))

  state_after : (roots : List ℕ) → IsState log image roots parts sent → IsState log' image roots parts'' sent''
  state_after roots state =
      subst (λ n. IsState n image roots parts'' sent'') (sym same)
      (subst (λ xs. IsState log image roots xs sent'') (sym parts_same)
      (subst (λ ys. IsState log image roots parts' ys) (sym sent_same) (turned_state log image parts mid parts' sent sent' layout turned fine exchanged roots state)))

pub returns : goal.returns
returns g c =
    let old = c.args.self.now in
    let mid = c.turn_all.new.self in
    let parts' : List Part = c.exchange.new.parts in
    let sent' : List (List (List ℕ)) = c.exchange.new.sent in
    let parts_value = c.as_mut_slice.ensures.value in
    let sent_value = c.as_mut_slice-2.ensures.value ∙ ap (λ v. v.items) c.turn_all.ensures.sent in
    let exchanged : AreExchanged mid.parts.items parts' old.sent.items sent' =
    subst (λ xs. AreExchanged xs parts' old.sent.items sent') parts_value (subst (λ ys. AreExchanged c.as_mut_slice.result.now parts' ys sent') sent_value c.exchange.ensures) in
    let parts_count = exchanged.parts_count in
    let sent_count = c.exchange.ensures.sent_count ∙ ap length c.as_mut_slice-2.ensures.value in
    let fine = subst (All (λ p. p.failed ≡ false)) c.as_slice.ensures.value (c.has_failed.ensures c.if-has_failed.false) in
    let parts_written = written mid.parts.len parts' mid.parts.items (omega (arith, parts_count, mid.parts.ok.0)) in
    let sent_written = written mid.sent.len sent' mid.sent.items (omega (arith, sent_count, mid.sent.ok.0)) in
    record {
      log = c.turn_all.ensures.log;
      layout = layout_after old.log mid.log c.args.heap.now old.parts.items mid.parts.items parts' _ old.sent.items sent' _ c.turn_all.ensures.log parts_written sent_written c.requires.layout c.turn_all.ensures.turned fine exchanged;
      state = λ roots. state_after old.log mid.log c.args.heap.now old.parts.items mid.parts.items parts' _ old.sent.items sent' _ c.turn_all.ensures.log parts_written sent_written c.requires.layout c.turn_all.ensures.turned fine exchanged roots;
    }
