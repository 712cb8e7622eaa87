use Rattle.std.proofs.Common.{◌≡◌, ◌≤◌, arith, sym, ◌∙◌}
use Rattle.std.proofs.lemmas.Bool.{leb-true, le-leb}
use Rattle.history.specs.Ledger.{taken_up_to}
use Rattle.history.proofs.Lemmas.CopiedOut.{IsRead, is_read, copied_out, copied_up_to}
use Rattle.history.proofs.machine.ledger.Ledger.is_copied_out.Goals as goal

pub returns : goal.returns
returns c w tells =
    let image = c.args.plan.now in
    let is : IsRead image c.args.destination c.args.source = is_read c.plan_laws.ensures image c.planned_image_is_valid.ensures (c.moves_of_images.ensures.reads image c.planned_image_is_valid.ensures) c.args.destination c.args.source c.requires in
    let up : c.taken_up_to.result ≡ taken_up_to image c.args.destination c.args.source = c.taken_up_to.ensures in
    let count : w.written c.args.destination ≡ c.from.result = tells.written c.args.destination ∙ (sym c.written.ensures ∙ sym c.from.ensures) in
    let out = copied_out c.plan_laws.ensures image c.planned_image_is_valid.ensures (c.moves_of_images.ensures.reads image c.planned_image_is_valid.ensures) c.args.destination c.args.source w is in
    let back = copied_up_to c.plan_laws.ensures image c.planned_image_is_valid.ensures (c.moves_of_images.ensures.reads image c.planned_image_is_valid.ensures) c.args.destination c.args.source w is in (
      λ h. out (let l : c.taken_up_to.result ≤ c.from.result = leb-true c.taken_up_to.result c.from.result h in omega arith),
      λ all. le-leb c.taken_up_to.result c.from.result (let l = back all in omega arith),
    )
