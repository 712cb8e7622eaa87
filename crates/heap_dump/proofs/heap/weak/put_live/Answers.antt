use Rattle.std.proofs.Common.{◌<◌, ◌≡◌, ◌+◌, ◌^◌, ℕ, List, [], ◌∷◌, get_or, length, sym, subst}
use Rattle.std.specs.List.{concat}
use Rattle.std.specs.Prelude.{All, take}
use Rattle.object_heap.specs.HeapImage.{AreBlocks}
use Rattle.dump_objects.specs.declared.heap.weak_reference.WeakReference.{WeakReference}
use Rattle.heap_dump.specs.Weak.{DifferOnlyAt, slots_of}
use Rattle.heap_dump.proofs.Lemmas.WeakWords.{differ_none, put_more}
use Rattle.heap_dump.proofs.heap.weak.put_live.Goals as goal
use Rattle.heap_dump.proofs.heap.weak.put_live.Goals.{then-is_ok, else-is_ok}

pub loop-reference-preserved : goal.loop-reference-preserved
loop-reference-preserved c =
    let weak = c.args.weak.now in
    let i = c.loop-reference.reference-index in
    let before : List ℕ = concat c.args.regions.now in
    let now : List ℕ = concat c.loop-reference.regions in
    let none : WeakReference = record { holder = 0; slot = 0; referent = 0 } in
    let more = put_more weak before i none now in
    let below = c.loop-reference-test.true in
    let so_far = c.loop-reference.invariant in
    elim c.if-is_ok.branch [
      | then-is_ok w ↦ record {
        whole = subst (λ (rs : List (List ℕ)). AreBlocks c.args.region_log rs) (sym w.regions-is) w.put.ensures.whole;
        fit = subst (λ (rs : List (List ℕ)). All (λ n. n < 2 ^ 64) (concat rs)) (sym w.regions-is) w.put.ensures.fit;
        others = subst (λ (rs : List (List ℕ)). DifferOnlyAt (slots_of (take (i + 1) weak)) before (concat rs)) (sym w.regions-is)
            (more (concat w.put.new.regions) below so_far.others w.put.ensures.others);
      }
      | else-is_ok w ↦ record {
        whole = subst (λ (rs : List (List ℕ)). AreBlocks c.args.region_log rs) (sym w.regions-is) so_far.whole;
        fit = subst (λ (rs : List (List ℕ)). All (λ n. n < 2 ^ 64) (concat rs)) (sym w.regions-is) so_far.fit;
        others = subst (λ (rs : List (List ℕ)). DifferOnlyAt (slots_of (take (i + 1) weak)) before (concat rs)) (sym w.regions-is)
            (more now below so_far.others (differ_none ((get_or weak i none).slot ∷ []) now));
      }
    ]
