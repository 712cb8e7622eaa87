use Rattle.std.proofs.Common.{◌≡◌, ◌+◌, ◌*◌, ◌/◌, ◌^◌, ◌<◌, ℕ, List, length, get_or, sym, ◌∙◌, ap, subst, arith}
use Rattle.std.proofs.lemmas.List.{length_push}
use Rattle.object_heap.specs.HeapImage.{heap_words}
use Rattle.heap_marking.specs.Rounds.{AreParts, IsPartAt, IsUnmarked}
use Rattle.heap_marking.specs.declared.marking.part.Part.{Part}
use Rattle.heap_marking.proofs.Lemmas.Starts.{each_push, part_begins}
use Rattle.heap_marking.proofs.marking.start.parts_of.Goals as goal

pub loop-k-preserved : goal.loop-k-preserved
loop-k-preserved c =
    let log = c.args.log in
    let image = c.args.heap.now in
    let k = c.loop-k.k in
    let parts : List Part = c.loop-k.parts.items in
    let p : Part = c.in_ok-new.field-0 in
    let before = c.loop-k.invariant in
    let pushed = c.in_ok-push.ensures.items in
    let low = c.loop-k-test.true in
    let inside : k * 2 ^ log < heap_words image = c.requires.count.needed k low in
    let few = c.is_small.ensures in
    let first : p.first ≡ k * 2 ^ log = omega (arith, c.in_ok-new.ensures.first, inside, few) in
    let boxes : (b : ℕ) → b < heap_words image → b / 2 ^ log < length p.out = λ b l. let most = c.requires.count.inside b l in let out = c.in_ok-new.ensures.out in omega (arith, most, out) in
    let begins : IsPartAt log image k p = part_begins log image k p c.requires.log first inside c.in_ok-new.ensures.bits boxes c.in_ok-new.ensures.unmarked in
    let count = before.count in
    let here : k ≡ length parts = sym count in
    record {
      count = ap length pushed ∙ length_push parts p ∙ ap (λ n. n + 1) count;
      parts = subst (AreParts log image) (sym pushed) (each_push (IsPartAt log image) parts p before.parts (subst (λ n. IsPartAt log image n p) here begins));
      clear = subst (λ xs. (k : ℕ) → (d : Part) → k < length xs → IsUnmarked (get_or xs k d)) (sym pushed) (each_push (λ n q. IsUnmarked q) parts p before.clear c.in_ok-new.ensures.unmarked);
    }
