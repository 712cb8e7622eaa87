use Rattle.std.proofs.Common.{◌≡◌, ◌+◌, ◌/◌, ◌^◌, ◌&&◌, ◌||◌, ◌∙◌, [], List, ℕ, get_or, take, ap, sym, arith}
use Rattle.std.proofs.lemmas.List.{take_all}
use Rattle.std.specs.List.{list_any}
use Rattle.std.proofs.lemmas.List.Folds.{list_any_more}
use Rattle.object_heap.specs.HeapImage.{leads_to}
use Rattle.heap_marking.specs.Boxes.{arrives, leads}
use Rattle.heap_marking.specs.Spread.{is_in}
use Rattle.heap_marking.specs.declared.marking.part.Part.{Part}
use Rattle.heap_marking.proofs.Lemmas.Spreads.{spread_more, spread_as, part_kept}
use Rattle.heap_marking.proofs.Lemmas.Running.{and_over, in_same}
use Rattle.heap_marking.proofs.marking.part.Part.take_all.Goals as goal

pub loop-boxes-preserved : goal.loop-boxes-preserved
loop-boxes-preserved c =
    let log = c.args.log in
    let sent : List (List (List ℕ)) = c.args.sent.now in
    let i = c.loop-boxes.boxes-index in
    let p0 : Part = c.args.self.now in
    let k : ℕ = p0.first / 2 ^ log in
    let p : Part = c.loop-boxes.self in
    let p' : Part = c.take_box.new.self in
    let row : List (List ℕ) = c.boxes-item.result in
    let references = c.get.result.now in
    let spread = c.in_ok-take_box.ensures.spread in
    let before = c.loop-boxes.invariant in
    let here : (b : ℕ) → list_any (λ w. leads_to w b) references ≡ leads (get_or sent i row) k b = λ b.
    ap (list_any (λ w. leads_to w b)) (c.get.ensures ∙ ap (λ n. get_or row n []) c.number-number.ensures ∙ ap (λ boxes. get_or boxes k []) c.boxes-item.is) in
    record {
      spread = spread_more log c.args.words (λ b. arrives (take i sent) k b && is_in log p0 b) (λ b. list_any (λ w. leads_to w b) references && is_in log p b) (λ b. arrives (take (i + 1) sent) k b && is_in log p0 b) p0 p p'
          (λ b. ap (λ t. t && is_in log p0 b) (list_any_more (λ boxes. leads boxes k b) sent i row c.loop-boxes-test.true ∙ ap (λ t. arrives (take i sent) k b || t) (sym (here b)))
          ∙ and_over (arrives (take i sent) k b) (list_any (λ w. leads_to w b) references) (is_in log p0 b)
          ∙ ap (λ t. (arrives (take i sent) k b && is_in log p0 b) || (list_any (λ w. leads_to w b) references && t)) (sym (in_same log p0 p b before.spread.first)))
          before.spread spread;
      part = part_kept log c.args.words (λ b. list_any (λ w. leads_to w b) references && is_in log p b) p p' spread before.part;
      out = c.in_ok-take_box.ensures.out ∙ before.out;
      well_formed = c.in_ok-take_box.ensures.well_formed ∙ before.well_formed;
    }

pub returns : goal.returns
returns c =
    let sent : List (List (List ℕ)) = c.args.sent.now in
    let i = c.loop-boxes.boxes-index in
    let p0 : Part = c.args.self.now in
    let k : ℕ = p0.first / 2 ^ c.args.log in
    record {
      spread = spread_as c.args.log c.args.words (λ b. arrives (take i sent) k b && is_in c.args.log p0 b) (λ b. arrives sent k b && is_in c.args.log p0 b) p0 c.loop-boxes.self
          (λ b. ap (λ xs. arrives xs k b && is_in c.args.log p0 b) (sym (take_all i sent (omega (arith, c.loop-boxes-test.false))))) c.loop-boxes.invariant.spread;
      out = c.loop-boxes.invariant.out;
      well_formed = c.loop-boxes.invariant.well_formed;
    }
