use Rattle.std.proofs.Common.{◌≡◌, ◌+◌, ℕ, get_or, ◌∙◌, ap, arith}
use Rattle.object_heap.specs.HeapImage.{with_live, references_at, size_at}
use Rattle.heap_marking.proofs.Lemmas.SoundReferences.{marks_room, references_sound, unsound_tested, size_is, references_are}
use Rattle.heap_marking.proofs.soundness.is_sound.Goals as goal
use Rattle.heap_marking.proofs.soundness.is_sound.Goals.{else-i-live-via-then-i-live+else-end-live, else-i-live-via-else-i-live}

pub are_sound_references-requires-clause-room : goal.are_sound_references-requires-clause-room
are_sound_references-requires-clause-room c = marks_room c.args.heap.now c.args.live.now c.args.marked c.requires.known.marked_or

pub returns : goal.returns
returns c = λ said.
    let heap = c.args.heap.now in
    let live = c.args.live.now in
    let i = c.args.i in
    let a : ℕ = get_or live i 0 in
    let image = with_live heap live in
    let count : c.from-2.result ≡ references_at image a = c.from-2.ensures ∙ c.references.ensures ∙ references_are heap c.own.ensures a c.args.header c.requires.header in
    record {
      sound = c.objects_without_faults.ensures.header image a (unsound_tested heap c.own.ensures live c.len.result i c.args.header c.len.ensures.value c.requires.header c.is_unsound.result c.is_unsound.ensures ∙ c.if-is_unsound.false);
      apart = λ more. elim c.else-i-live.branch [
        | else-i-live-via-then-i-live+else-end-live w ↦
            let size : c.from.result ≡ size_at image a = c.from.ensures ∙ c.size.ensures ∙ size_is heap c.own.ensures a c.args.header c.requires.header in
            let below = w.if-end-live.false in
            omega arith
        | else-i-live-via-else-i-live w ↦ let last = w.if-i-live.false in let no : ⊥ = omega arith in absurd no
      ];
      references = references_sound c.objects_without_faults.ensures.references heap c.own.ensures live c.args.marked i (a + 1 + c.from-2.result) c.requires.index c.requires.known.marked_or (ap (λ n. a + 1 + n) count) (c.are_sound_references.ensures said);
    }
