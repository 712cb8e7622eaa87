use Rattle.std.proofs.Common.{rules, ◌≡◌, ◌∙◌, ◌+◌, ◌-◌, ◌≤◌, ℕ, List, length, ap, arith}
use Rattle.heap_text.specs.ImageBytes.{numbers_left}
use Rattle.heap_text.proofs.Lemmas.ByteSteps.{number_given}
use Rattle.heap_text.proofs.image_bytes.ImageBytes.give_numbers.Goals as goal

pub loop-buffer-preserved : goal.loop-buffer-preserved
loop-buffer-preserved c =
    let l = c.loop-buffer in
    let next = c.next_number in
    let row = c.copy_from_slice.new.self in
    let eight : l.count + 8 - l.count ≡ 8 = omega arith in
    let inside : l.count + 8 ≤ length l.buffer = omega (arith, c.loop-buffer-test.true) in
    let first : length c.args.self.now.bytes ≡ 32 = search rules in
    let len : length l.self.bytes ≡ 32 = ap (λ (xs : List ℕ). length xs) l.invariant.same ∙ first in
    rw eight (record {
      within = search rules;
      byte = omega (arith, c.in-Some.ensures.byte, l.invariant.byte);
      same = c.in-Some.ensures.bytes ∙ l.invariant.same;
      bytes = λ whole is. rw (c.in-Some.ensures.bytes, c.in-Some.ensures.byte)
          (number_given whole l.buffer row l.self.bytes (numbers_left l.self) (numbers_left next.new.self) l.count l.self.byte c.in-Some.number inside (search rules)
          (omega (arith, len, l.invariant.byte)) (l.invariant.bytes whole is) c.in-Some.ensures.some (c.copy_from_slice.ensures.after ∙ c.to_le_bytes.ensures));
    })
