use Rattle.std.proofs.Common.{◌≡◌, ℕ, List, get_or, not, sym, ◌∙◌, ap, Option}
use Rattle.std.specs.Prelude.{find, map, option_map}
use Rattle.std.specs.List.{range_with_len}
use Rattle.object_heap.specs.HeapImage.{HeapImage, with_live, is_unsound}
use Rattle.object_heap.specs.Header.{references_of}
use Rattle.object_heap.specs.Layout.{Layout, Own, references_in}
use Rattle.object_heap.specs.ObjectFaults.{is_dangling, fields_of}
use Rattle.heap_image.proofs.Lemmas.Fields.{dangling_searched, dangling_kept}
use Rattle.heap_image.proofs.Lemmas.Finds.{find_none_more, find-pairs}
use Rattle.heap_image.proofs.Lemmas.Objects.{unsound_tested, end_more, overlaps_more, header_first}
use Rattle.heap_image.proofs.check.check_objects.Goals as goal
use Rattle.heap_image.proofs.check.check_objects.Goals.{then-is_none+in-Some, then-is_none+in-None, else-is_none}

pub returns-then-is_unsound : goal.returns-then-is_unsound
returns-then-is_unsound c = record {
  ok = tt;
  fault = header_first c.args.heap.now c.args.live.now c.len-words.result c.loop-a.a-index c.loop-a-test.true c.len-words.ensures.value c.loop-a.invariant.sound
      (unsound_tested c.args.heap.now c.args.live.now c.len-words.result c.loop-a.a-index c.loop-a-test.true c.len-words.ensures.value c.word-word.result c.own.ensures c.word-word.ensures c.is_unsound.result c.is_unsound.ensures ∙ c.if-is_unsound.true);
}

-- the search of one object, by the number of references in its header
searched : (heap : HeapImage) (live : List ℕ) (a word n : ℕ) (field : Option ℕ) → heap.layout ≡ Own → word ≡ get_or heap.words a 0 → n ≡ references_of word
    → field ≡ find (λ f. is_dangling (with_live heap live) (a, f)) (range_with_len 0 n)
    → find (is_dangling (with_live heap live)) (fields_of (with_live heap live) a) ≡ option_map (λ f. (a, f)) field
searched heap live a word n field own w e f =
    let image = with_live heap live in
    ap (λ m. find (is_dangling image) (map (λ f. (a, f)) (range_with_len 0 m))) (sym (e ∙ ap references_of w ∙ sym (ap (λ (y : Layout). references_in y (get_or heap.words a 0)) own)))
    ∙ find-pairs (is_dangling image) a (range_with_len 0 n)
    ∙ ap (option_map (λ f. (a, f))) (sym f)

pub loop-a-preserved : goal.loop-a-preserved
loop-a-preserved c =
    let heap = c.args.heap.now in
    let live = c.args.live.now in
    let words = c.len-words.result in
    let i = c.loop-a.a-index in
    let word = c.word-word.result in
    let image = with_live heap live in
    record {
      sound = find_none_more (is_unsound (with_live heap live)) live i 0 c.loop-a-test.true c.loop-a.invariant.sound (unsound_tested heap live words i c.loop-a-test.true c.len-words.ensures.value word c.own.ensures c.word-word.ensures c.is_unsound.result c.is_unsound.ensures ∙ c.if-is_unsound.false);
      end = end_more heap live words i c.loop-a-test.true c.len-words.ensures.value word c.own.ensures c.word-word.ensures c.from.result (c.from.ensures ∙ c.size.ensures);
      overlap = overlaps_more heap live words i c.loop-a-test.true c.len-words.ensures.value c.loop-a.end c.loop-a.overlap c.or-overlap.result c.then_some.result c.loop-a.invariant.end c.loop-a.invariant.overlap c.then_some.ensures c.or-overlap.ensures;
      dangling = elim c.if-is_none.branch [
        | then-is_none+in-Some w ↦ dangling_searched (is_dangling image) (fields_of image) live i c.loop-a.dangling c.if-is_none.dangling c.loop-a-test.true c.loop-a.invariant.dangling
            (c.is_none.ensures ∙ ap not w.if-is_none.true)
            (searched heap live (get_or live i 0) word w.references.result w.dangling_field-field.result c.own.ensures c.word-word.ensures w.references.ensures (w.dangling_field-field.ensures live c.requires.inside c.requires.bits) ∙ ap (option_map (λ f. (get_or live i 0, f))) w.in-Some.is ∙ sym w.dangling-is)
        | then-is_none+in-None w ↦ dangling_searched (is_dangling image) (fields_of image) live i c.loop-a.dangling c.if-is_none.dangling c.loop-a-test.true c.loop-a.invariant.dangling
            (c.is_none.ensures ∙ ap not w.if-is_none.true)
            (searched heap live (get_or live i 0) word w.references.result w.dangling_field-field.result c.own.ensures c.word-word.ensures w.references.ensures (w.dangling_field-field.ensures live c.requires.inside c.requires.bits) ∙ ap (option_map (λ f. (get_or live i 0, f))) w.in-None.is ∙ sym w.dangling-is)
        | else-is_none w ↦ w.dangling-is ∙ dangling_kept (is_dangling image) (fields_of image) live i c.loop-a.dangling c.loop-a-test.true c.loop-a.invariant.dangling (c.is_none.ensures ∙ ap not w.if-is_none.false)
      ];
    }
