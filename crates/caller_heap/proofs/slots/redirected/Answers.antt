use Rattle.std.proofs.Common.{◌≡◌, ◌∙◌, ℕ, ◌+◌, ◌-◌, ◌*◌, ◌/◌, ◌%◌, ◌^◌, ◌<◌, ◌≤◌, ap, sym, subst, arith, mul_comm, leb, eqb, ltb, ◌&&◌, true}
use Rattle.std.proofs.lemmas.Bool.{cond-true, and_from, lt-ltb, le-leb, eq-eqb}
use Rattle.std.proofs.Math.Nat.{mul-le-mul_left, mul-div-le, mul-mod_left, mod-eq_of_lt}
use Rattle.object_heap.specs.HeapImage.{HeapImage, heap_words, is_live_word}
use Rattle.summary.specs.WordMoves.{slid}
use Rattle.caller_heap.specs.Slots.{leads, redirected_slot}
use Rattle.caller_heap.proofs.slots.redirected.Goals as goal

pub overflow_add-result : goal.overflow_add-result
overflow_add-result c =
    let base = c.args.coding.base in
    let s : ℕ = 2 ^ (c.args.coding.unit % 64) in
    let d : ℕ = c.args.slot - base in
    let image = c.args.places.now in
    let down = c.plan_laws.ensures.slid-le image (d / s) in
    let to : c.in-At.to ≤ d / s = let is = c.in-At.ensures.2 in omega arith in
    let scaled = mul-le-mul_left s to in
    let whole = mul-div-le d s in
    let turned = mul_comm c.in-At.to s in
    let fits = c.ranges.slot.fits in
    let low = c.if-slot-coding.false in
    let small : c.in-At.to * s < 18446744073709551616 = omega arith in
    let same = mod-eq_of_lt small in
    record { fits = omega arith }

pub returns-in-At : goal.returns-in-At
unfolding redirected_slot
returns-in-At c =
    let base = c.args.coding.base in
    let slot = c.args.slot in
    let s : ℕ = 2 ^ (c.args.coding.unit % 64) in
    let d : ℕ = slot - base in
    let a : ℕ = d / s in
    let image : HeapImage = c.args.places.now in
    let at = c.in-At.ensures in
    let down = c.plan_laws.ensures.slid-le image a in
    let to : c.in-At.to ≤ a = omega (arith, at.2, down) in
    let scaled = mul-le-mul_left s to in
    let whole = mul-div-le d s in
    let turned = mul_comm c.in-At.to s in
    let turned_back = mul_comm a s in
    let fits = c.ranges.slot.fits in
    let low = c.if-slot-coding.false in
    let small : c.in-At.to * s < 18446744073709551616 = omega arith in
    let same = mod-eq_of_lt small in
    let all : a * s < 18446744073709551616 = omega arith in
    let shifted = mod-eq_of_lt all in
    let even : a * s ≡ d = let tested = c.if-address-unit.false in omega arith in
    let few : a < c.args.coding.word_count = let tested = c.if-address-unit.false in omega arith in
    let whole_step : eqb (d % s) 0 ≡ true = eq-eqb (d % s) 0 (subst (λ (n : ℕ). n % s ≡ 0) even (mul-mod_left a s)) in
    let led : leads image c.args.coding slot ≡ true =
    and_from (leb base slot && eqb (d % s) 0 && ltb a c.args.coding.word_count) (ltb a (heap_words image))
    (and_from (leb base slot && eqb (d % s) 0) (ltb a c.args.coding.word_count)
    (and_from (leb base slot) (eqb (d % s) 0) (le-leb base slot (omega arith)) whole_step)
    (lt-ltb a c.args.coding.word_count few))
    (lt-ltb a (heap_words image) at.0) in
    let moved : base + c.in-At.to * s % 18446744073709551616 ≡ base + s * slid image a = ap (λ n. base + n) (same ∙ turned ∙ ap (λ n. s * n) at.2) in
    moved
    ∙ sym (cond-true (is_live_word image a) (base + s * slid image a) c.args.coding.dead at.1)
    ∙ sym (cond-true (leads image c.args.coding slot) _ slot led)
