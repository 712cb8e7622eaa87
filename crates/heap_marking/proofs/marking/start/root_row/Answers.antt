use Rattle.std.proofs.Common.{ℕ, ◌∙◌, get_or, take, sym}
use Rattle.std.specs.List.{list_any}
use Rattle.std.proofs.lemmas.List.Folds.{list_any_more}
use Rattle.object_heap.specs.HeapImage.{leads_to}
use Rattle.heap_marking.proofs.marking.start.root_row.Goals as goal

pub loop-root-preserved : goal.loop-root-preserved
loop-root-preserved c =
    let roots = c.args.roots.now in
    let i = c.loop-root.root-index in
    let w = get_or roots i 0 in
    let before = c.loop-root.invariant in
    let now = c.in_ok-send_root.ensures.sent in
    let more = λ (b : ℕ). list_any_more (λ w. leads_to w b) roots i 0 c.loop-root-test.true in
    record {
      count = c.send_root.ensures.count ∙ before.count;
      sent = λ b l h. now.sent (λ b. list_any (λ w. leads_to w b) (take i roots)) before.sent b l (sym (more b) ∙ h);
      sound = λ k b l h. more b ∙ now.sound (λ b. list_any (λ w. leads_to w b) (take i roots)) before.sound k b l h;
    }
