use Rattle.std.proofs.Common.{◌≡◌, ◌+◌, ◌-◌, ◌*◌, ◌/◌, ◌^◌, ◌<◌, ◌++◌, ◌∷◌, [], List, length, take, sym, ◌∙◌, ap, subst, arith}
use Rattle.object_heap.specs.Bits.{has}
use Rattle.heap_marking.specs.declared.marking.part.Part.{Part}
use Rattle.heap_marking.proofs.Lemmas.Joins.{AreJoined, joined_none, joined_more, whole_room, whole_marks, whole_outside, words_of_part}
use Rattle.heap_marking.proofs.marking.finish.join_bits.Goals as goal

pub loop-part-init : goal.loop-part-init
loop-part-init c = record {
  joined = subst (AreJoined c.args.log c.args.parts.now 0) (sym c.in_ok-joined.ensures.items) (joined_none c.args.log c.args.parts.now);
}

pub loop-part-preserved : goal.loop-part-preserved
loop-part-preserved c =
    let log = c.args.log in
    let parts : List Part = c.args.parts.now in
    let i = c.loop-part.part-index in
    let p : Part = c.part-item.result in
    let low = c.loop-part-test.true in
    let whole : 2 ^ log ≡ 64 * 2 ^ (log - 6) = words_of_part log c.requires.low in
    let room : 2 ^ log < 64 * length p.bits = subst (λ q. 2 ^ log < 64 * length q.bits) (sym c.part-item.is) (c.requires.bits i p low) in
    record {
      joined = subst (AreJoined log parts (i + 1)) (sym c.in_ok-append_bits.ensures)
          (joined_more log parts i c.loop-part.joined.items p (2 ^ (log - 6)) low c.part-item.is whole room c.loop-part.invariant.joined);
    }

-- the whole set
all : (c : goal.After-from_words) → AreJoined c.args.log c.args.parts.now (length c.args.parts.now) c.loop-part.joined.items
all c =
    let end : c.loop-part.part-index ≡ length c.args.parts.now = omega (arith, c.loop-part-test.false) in
    subst (λ n. AreJoined c.args.log c.args.parts.now n c.loop-part.joined.items) end c.loop-part.invariant.joined

whole : (c : goal.After-from_words) → c.from_words.result ≡ take (c.args.words / 64 + 1) (c.loop-part.joined.items ++ 0 ∷ [])
whole c = c.from_words.ensures ∙ c.truncate.ensures.items ∙ ap (take (c.args.words / 64 + 1)) c.in_ok-push.ensures.items

pub returns : goal.returns
returns c = record {
  room = ap length (whole c) ∙ whole_room c.args.log c.args.parts.now c.args.words c.loop-part.joined.items (all c) c.requires.covers;
  marks = λ a d l low. ap (λ xs. has xs a) (whole c) ∙ whole_marks c.args.log c.args.parts.now c.args.words c.loop-part.joined.items (all c) c.requires.covers a d l low;
  outside = λ a high. ap (λ xs. has xs a) (whole c) ∙ whole_outside c.args.log c.args.parts.now c.args.words c.loop-part.joined.items (all c) c.requires.covers a high;
}
