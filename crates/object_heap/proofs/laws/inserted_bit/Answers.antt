use Rattle.std.proofs.Common.{◌/◌, ◌%◌, ◌||◌, ◌&&◌, get_or, refl, ap, ◌∙◌, arith, eqb}
use Rattle.object_heap.specs.Bits.{has}
use Rattle.object_heap.proofs.Lemmas.Places.{same_place}
use Rattle.object_heap.proofs.Lemmas.Words.{has-mask}
use Rattle.object_heap.proofs.Lemmas.Masks.{one_bit, one_bit-bit}
use Rattle.object_heap.proofs.laws.inserted_bit.Goals as goal

pub returns : goal.returns
returns c = λ words i k inside.
    has-mask words (i / 64) (get_or words (i / 64) 0) (one_bit (i % 64)) k inside refl
    ∙ ap (λ b. has words k || (eqb (k / 64) (i / 64) && b)) (one_bit-bit (i % 64) (k % 64) (omega arith))
    ∙ ap (λ b. has words k || b) (same_place i k)
