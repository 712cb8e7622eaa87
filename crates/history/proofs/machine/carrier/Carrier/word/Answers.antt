use Rattle.std.proofs.Common.{◌≡◌, ℕ, ◌<◌, length, get_or, Some, true, false, sym, ap, ◌∙◌, arith}
use Rattle.object_heap.specs.HeapImage.{is_null_or_live, word_at}
use Rattle.std.proofs.lemmas.Bool.{cond-true, cond-false}
use Rattle.std.proofs.lemmas.List.{get_or_default}
use Rattle.summary.specs.WordMoves.{origin}
use Rattle.summary.specs.Compaction.{redirected, redirected_word}
use Rattle.history.specs.Slide.{word_from}
use Rattle.history.specs.WordMachine.{is_redirected, image_slide}
use Rattle.history.proofs.Lemmas.Carrying.{origin_inside, nowhere, redirected_sound}
use Rattle.history.proofs.machine.carrier.Carrier.word.Goals as goal

pub filler_word-requires-clause-inside : goal.filler_word-requires-clause-inside
filler_word-requires-clause-inside c = (nowhere c.plan_laws.ensures c.args.self.now.plan.now c.requires.kept.valid c.args.place c.requires.below (sym c.origin.ensures ∙ c.in_default.is)).0

pub filler_word-requires-clause-dead : goal.filler_word-requires-clause-dead
filler_word-requires-clause-dead c = (nowhere c.plan_laws.ensures c.args.self.now.plan.now c.requires.kept.valid c.args.place c.requires.below (sym c.origin.ensures ∙ c.in_default.is)).1

pub offset_bounds-heap-origin : goal.offset_bounds-heap-origin
offset_bounds-heap-origin c =
    let l = origin_inside c.plan_laws.ensures c.args.self.now.plan.now c.requires.kept.valid c.args.place c.in-Some.origin (sym c.origin.ensures ∙ c.in-Some.is) in
    let few = c.requires.kept.valid.limits.few_words in
    omega arith

pub bounds-heap-origin : goal.bounds-heap-origin
bounds-heap-origin c =
    let l = origin_inside c.plan_laws.ensures c.args.self.now.plan.now c.requires.kept.valid c.args.place c.in-Some.origin (sym c.origin.ensures ∙ c.in-Some.is) in
    let long = c.requires.long in
    omega arith

pub index-requires : goal.index-requires
index-requires c =
    let l = origin_inside c.plan_laws.ensures c.args.self.now.plan.now c.requires.kept.valid c.args.place c.in-Some.origin (sym c.origin.ensures ∙ c.in-Some.is) in
    let long = c.requires.kept.early.all in
    let ok = c.args.self.now.early.ok.0 in
    omega arith

pub redirected-requires : goal.redirected-requires
redirected-requires c =
    let image = c.args.self.now.plan.now in
    let x : ℕ = c.in-Some.origin in
    let from : origin image c.args.place ≡ Some x = sym c.origin.ensures ∙ c.in-Some.is in
    let l = origin_inside c.plan_laws.ensures image c.requires.kept.valid c.args.place x from in
    let long : x < length c.args.self.now.early.items = let all = c.requires.kept.early.all in omega arith in
    let flag : is_redirected image x ≡ true = sym (c.requires.kept.early.each x l) ∙ get_or_default c.args.self.now.early.items x false c.index.result.now long ∙ (sym c.index.ensures ∙ c.if-index.true) in
    ap (is_null_or_live image) (c.requires.stands x from ∙ sym (c.requires.kept.own.leads (word_at image x))) ∙ redirected_sound image c.requires.kept.valid x flag

pub returns-then-index : goal.returns-then-index
returns-then-index c =
    let image = c.args.self.now.plan.now in
    let x : ℕ = c.in-Some.origin in
    let from : origin image c.args.place ≡ Some x = sym c.origin.ensures ∙ c.in-Some.is in
    let l = origin_inside c.plan_laws.ensures image c.requires.kept.valid c.args.place x from in
    let long : x < length c.args.self.now.early.items = let all = c.requires.kept.early.all in omega arith in
    let flag : is_redirected image x ≡ true = sym (c.requires.kept.early.each x l) ∙ get_or_default c.args.self.now.early.items x false c.index.result.now long ∙ (sym c.index.ensures ∙ c.if-index.true) in
    c.redirected.ensures
    ∙ ap (redirected image) (c.requires.stands x from)
    ∙ sym (c.requires.kept.own.redirects (word_at image x))
    ∙ sym (cond-true (is_redirected image x) (redirected_word image (word_at image x)) (word_at image x) flag)
    ∙ sym (ap (word_from (image_slide image) (word_at image) c.args.place) from)

pub returns-else-index : goal.returns-else-index
returns-else-index c =
    let image = c.args.self.now.plan.now in
    let x : ℕ = c.in-Some.origin in
    let from : origin image c.args.place ≡ Some x = sym c.origin.ensures ∙ c.in-Some.is in
    let l = origin_inside c.plan_laws.ensures image c.requires.kept.valid c.args.place x from in
    let long : x < length c.args.self.now.early.items = let all = c.requires.kept.early.all in omega arith in
    let flag : is_redirected image x ≡ false = sym (c.requires.kept.early.each x l) ∙ get_or_default c.args.self.now.early.items x false c.index.result.now long ∙ (sym c.index.ensures ∙ c.if-index.false) in
    c.requires.stands x from
    ∙ sym (cond-false (is_redirected image x) (redirected_word image (word_at image x)) (word_at image x) flag)
    ∙ sym (ap (word_from (image_slide image) (word_at image) c.args.place) from)
