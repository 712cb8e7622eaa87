use Rattle.std.proofs.Common.{◌≡◌, ◌<◌, length, get_or, true, false, sym, ap, ◌∙◌, arith}
use Rattle.std.proofs.lemmas.List.{get_or_default}
use Rattle.object_heap.specs.HeapImage.{HeapImage, is_null_or_live}
use Rattle.summary.specs.NewAddresses.{new_top}
use Rattle.summary.specs.Compaction.{redirected, moved_word}
use Rattle.history.proofs.Lemmas.Carrying.{late_sound}
use Rattle.history.proofs.machine.carrier.Carrier.finished_word.Goals as goal

pub redirected-requires : goal.redirected-requires
redirected-requires c =
    let image : HeapImage = c.args.self.now.plan.now in
    let long : c.args.place < length c.args.self.now.late.items = let all = c.requires.kept.late.all in let l = c.requires.inside in omega arith in
    let flag : get_or c.args.self.now.late.items c.args.place false ≡ true = get_or_default c.args.self.now.late.items c.args.place false c.index.result.now long ∙ (sym c.index.ensures ∙ c.if-index.true) in
    ap (is_null_or_live image) (c.requires.moved ∙ sym (c.requires.kept.own.leads (moved_word image c.args.place))) ∙ late_sound c.plan_laws.ensures image c.requires.kept.valid c.args.place (sym (c.requires.kept.late.each c.args.place c.requires.inside) ∙ flag)

pub returns-then-index : goal.returns-then-index
returns-then-index c =
    let image : HeapImage = c.args.self.now.plan.now in
    let long : c.args.place < length c.args.self.now.late.items = let all = c.requires.kept.late.all in let l = c.requires.inside in omega arith in
    let flag : get_or c.args.self.now.late.items c.args.place false ≡ true = get_or_default c.args.self.now.late.items c.args.place false c.index.result.now long ∙ (sym c.index.ensures ∙ c.if-index.true) in
    c.redirected.ensures ∙ (ap (redirected image) c.requires.moved ∙ sym (c.requires.kept.own.redirects (moved_word image c.args.place)) ∙ sym (c.plan_laws.ensures.moved-late image c.requires.kept.valid.live_list c.args.place (sym (c.requires.kept.late.each c.args.place c.requires.inside) ∙ flag)))

pub returns-else-index : goal.returns-else-index
returns-else-index c =
    let image : HeapImage = c.args.self.now.plan.now in
    let long : c.args.place < length c.args.self.now.late.items = let all = c.requires.kept.late.all in let l = c.requires.inside in omega arith in
    let flag : get_or c.args.self.now.late.items c.args.place false ≡ false = get_or_default c.args.self.now.late.items c.args.place false c.index.result.now long ∙ (sym c.index.ensures ∙ c.if-index.false) in
    let below : c.args.place < new_top image = let t = c.new_top.ensures in let l = c.if-place-new_top.false in omega arith in
    c.requires.moved ∙ c.plan_laws.ensures.moved-same image c.requires.kept.valid.live_list c.args.place below (sym (c.requires.kept.late.each c.args.place c.requires.inside) ∙ flag)
