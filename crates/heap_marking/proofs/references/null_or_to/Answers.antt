use Rattle.std.proofs.Common.{◌≡◌, ℕ, ◌+◌, ◌-◌, ◌*◌, ◌/◌, ◌<◌, ◌≤◌, ◌||◌, inl, inr, eqb, length, sym, ap, ◌∙◌, arith}
use Rattle.std.proofs.lemmas.Bool.{cases_eq, eq-eqb, ne_eqb}
use Rattle.std.specs.List.{list_any}
use Rattle.object_heap.specs.HeapImage.{heap_words}
use Rattle.object_heap.specs.Bits.{has}
use Rattle.heap_marking.proofs.Lemmas.References.{leads_by_mark}
use Rattle.heap_marking.proofs.references.null_or_to.Goals as goal

pub returns : goal.returns
returns c = λ image below marks.
    let words : ℕ = heap_words image in
    let live = image.live in
    let items = c.in_ok-references.references.items in
    let begins = c.args.begins.now in
    let long : length items ≡ words / 64 + 1 = c.in_ok-references.ensures.room ∙ ap length c.words.ensures ∙ marks.room in
    record {
      room = let same = ap length c.from_words.ensures in omega (arith, long, same);
      marked = λ r inside.
          ap (λ bits. has bits r) c.from_words.ensures
          ∙ c.in_ok-references.ensures.bits r (omega (arith, long, inside))
          ∙ ap (λ bits. eqb r 0 || has bits (r - 1)) c.words.ensures
          ∙ elim (cases_eq r 0) [
            | inl null ↦
                ap (λ b. b || has begins (r - 1)) (eq-eqb r 0 null)
                ∙ sym (ap (λ b. b || list_any (λ a. eqb r (a + 1)) live) (eq-eqb r 0 null))
            | inr some ↦
                ap (λ b. b || has begins (r - 1)) (ne_eqb r 0 some)
                ∙ leads_by_mark words live begins below marks r some inside
          ];
    }
