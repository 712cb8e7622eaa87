use Rattle.std.proofs.Common.{◌≡◌, ◌+◌, ◌-◌, ◌≤◌, set, length, arith, length-set}
use Rattle.std.proofs.lemmas.Bool.{ne_eqb}
use Rattle.std.proofs.lemmas.Fmt.{length-decimal-le}
use Rattle.std.proofs.lemmas.List.{set_comm, drop-set}
use Rattle.heap_text.proofs.word_row.put_reference.Goals as goal

pub write_digits-begin-requires : goal.write_digits-begin-requires
write_digits-begin-requires c =
    (omega (arith, length-decimal-le 20 (c.args.reference - 1) (omega arith) (omega (arith, c.ranges.reference.fits)) (omega (arith, c.ranges.reference.fits)), c.requires.room), c.requires.inside)

pub overflow_sub-begin : goal.overflow_sub-begin
overflow_sub-begin c =
    omega (arith, length-decimal-le 20 (c.args.reference - 1) (omega arith) (omega (arith, c.ranges.reference.fits)) (omega (arith, c.ranges.reference.fits)), c.requires.room, c.write_digits-begin.ensures.start)

pub returns-clause-near : goal.returns-clause-near
returns-clause-near c =
    omega (arith, length-decimal-le 20 (c.args.reference - 1) (omega arith) (omega (arith, c.ranges.reference.fits)) (omega (arith, c.ranges.reference.fits)), c.requires.room, c.write_digits-begin.ensures.start)

pub returns-clause-text : goal.returns-clause-text
returns-clause-text c =
    let w = c.write_digits-begin in
    let at = w.result - 2 in
    let buf = w.new.buf in
    let short = length-decimal-le 20 (c.args.reference - 1) (omega arith) (omega (arith, c.ranges.reference.fits)) (omega (arith, c.ranges.reference.fits)) in
    let room : 2 ≤ w.result = omega (arith, short, c.requires.room, w.ensures.start) in
    let inside : at + 2 ≤ length buf = omega (arith, room, c.requires.inside, w.ensures.start) in
    let e : at + 1 + 1 ≡ w.result = omega (arith, room) in
    rw (
      ne_eqb c.args.reference 0 c.if-reference-eq0.false,
      set_comm buf at (at + 1) 32 64 (λ x. omega arith),
      drop-set (set buf (at + 1) 64) at 32 (omega (arith, inside, length-set buf (at + 1) 64)),
      drop-set buf (at + 1) 64 (omega (arith, inside)),
      e,
      w.ensures.written,
    )
