use Rattle.std.proofs.Common.{◌≡◌, ◌<◌, ◌/◌, ◌%◌, ◌*◌, ◌^◌, ◌||◌, ◌&&◌, List, ℕ, length, ap, ◌∙◌, subst, sym, arith, eqb}
use Rattle.std.proofs.lemmas.Grind.{get_or_default_zero}
use Rattle.object_heap.specs.Bits.{has, room}
use Rattle.object_heap.proofs.Lemmas.Places.{same_place}
use Rattle.object_heap.proofs.Lemmas.Masks.{one_bit-bit}
use Rattle.object_heap.proofs.Lemmas.Words.{has-mask}
use Rattle.object_heap.proofs.bits.Bits.insert.Goals as goal

pub returns-clause-bits : goal.returns-clause-bits
returns-clause-bits c = λ k.
    let i : ℕ = c.args.i in
    let items : List ℕ = c.self.inside.words.items in
    let is : items ≡ c.args.self.now = c.self.view_is in
    let room : i < 64 * length items = subst (λ (n : List ℕ). i < room n) (sym is) c.requires in
    let inside : i / 64 < length items = omega arith in
    has-mask items (i / 64) c.index_mut.result.now (1 * 2 ^ (i % 64) % 18446744073709551616) k inside (c.index_mut.ensures.value ∙ get_or_default_zero items (i / 64) c.index_mut.result.now inside)
    ∙ ap (λ b. has items k || (eqb (k / 64) (i / 64) && b)) (one_bit-bit (i % 64) (k % 64) (omega arith))
    ∙ ap (λ b. has items k || b) (same_place i k)
    ∙ ap (λ (n : List ℕ). has n k || eqb i k) is
