use Rattle.std.proofs.Common.{◌≡◌, ℕ, ◌*◌, ◌^◌, ◌%◌, ◌<◌, ◌≤◌, List, length, sym, ◌∙◌, ap, subst, arith}
use Rattle.std.proofs.Math.Nat.{mod-eq_of_lt}
use Rattle.std.specs.List.{concat}
use Rattle.object_heap.specs.HeapImage.{AreBlocks}
use Rattle.collection_commands.proofs.explanation.heap_of.Goals as goal

-- a shift of 64 bits that loses none
few : (shifted words : ℕ) → shifted ≡ words → shifted % 18446744073709551616 ≤ 68719476736 → words ≤ 137438953472 → words ≤ 68719476736
few shifted words same tested bound =
    let small : shifted < 18446744073709551616 = omega (arith, same, bound) in
    subst (λ n. n ≤ 68719476736) (mod-eq_of_lt small ∙ same) tested

pub new-requires : goal.new-requires
new-requires c =
    let log : ℕ = c.args.region_log in
    let blocks : List (List ℕ) = c.as_slice.result.now in
    let same : blocks ≡ c.args.body.now.regions.items = c.as_slice.ensures.value in
    let whole : AreBlocks log blocks = subst (AreBlocks log) (sym same) c.requires.blocks in
    let count : c.len.result ≡ length blocks = c.len.ensures ∙ sym c.as_slice.ensures.len in
    let long : length (concat blocks) ≡ length blocks * 2 ^ log = c.blocks_joined.ensures.words log blocks whole in
    let bound : length blocks * 2 ^ log ≤ 137438953472 = subst (λ (xs : List (List ℕ)). length xs * 2 ^ log ≤ 137438953472) (sym same) c.requires.few in
    record {
      log = c.requires.log;
      whole = whole;
      few = few (c.len.result * 2 ^ log) (length (concat blocks)) (ap (λ n. n * 2 ^ log) count ∙ sym long) (omega (arith, c.if-words-most.false, c.max_words-most.ensures.few)) (subst (λ n. n ≤ 137438953472) (sym long) bound);
    }
