use Rattle.std.proofs.Common.{sym, arith, ◌+◌, ◌-◌, ◌≡◌, ◌<◌, ◌≤◌, ◌^◌, ◌&&◌, subst, ℕ}
use Rattle.std.proofs.lemmas.Result.{on_ok_weaker}
use Rattle.object_heap.specs.HeapImage.{leads_to}
use Rattle.heap_marking.specs.Spread.{IsSpread, IsIn, is_in}
use Rattle.heap_marking.specs.declared.marking.part.Part.{Part}
use Rattle.heap_marking.proofs.Lemmas.Spreads.{spread_as}
use Rattle.heap_marking.proofs.Lemmas.Running.{target_in}
use Rattle.heap_marking.proofs.marking.part.Part.take.Goals as goal

pub returns : goal.returns
returns c =
    let log = c.args.log in
    let w : ℕ = c.args.reference in
    let a : ℕ = w - 1 in
    let same : w ≡ a + 1 = omega arith in
    let low : a < c.args.words = omega arith in
    let p : Part = c.args.self.now in
    let low_end : p.first ≤ a = c.if-a-self.false in
    let high_end : a < p.first + 2 ^ log = omega (arith, c.if-a-self-2.false, c.part_size.ensures) in
    let inside : IsIn log p a = (low_end, high_end) in
    let p' : Part = c.mark.new.self in
    on_ok_weaker c.mark.result
    (λ taken.
    let now = taken c.args.words low in
    record {
      spread = spread_as log c.args.words (leads_to w) (λ b. leads_to w b && is_in log p b) p p' (target_in log w a p same inside)
          (subst (λ x. IsSpread log c.args.words (leads_to x) p p') (sym same) now.spread);
      out = now.out;
      well_formed = now.well_formed;
    })
    c.mark.ensures
