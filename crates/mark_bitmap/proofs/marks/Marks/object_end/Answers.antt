use Rattle.std.proofs.Common.{◌≡◌, ◌+◌, ℕ, subst, sym, ap, ◌∙◌, arith}
use Rattle.std.specs.Prelude.{unwrap_or, MatchOption}
use Rattle.object_heap.specs.HeapImage.{is_dead_word}
use Rattle.object_heap.specs.Bits.{NoneBetween, IsFirstBetween}
use Rattle.mark_bitmap.proofs.Lemmas.Runs.{live-inside}
use Rattle.mark_bitmap.proofs.Lemmas.Ends.{IsObjectEnd, object_end-is}
use Rattle.mark_bitmap.proofs.marks.Marks.object_end.Goals as goal

pub overflow_add-a : goal.overflow_add-a
overflow_add-a c =
    let image = c.args.self.now in
    let valid = c.marked_image_is_valid.ensures in
    let inside = live-inside image valid c.args.a c.requires in
    let few = valid.limits.few_words in
    omega arith

pub overflow_add-a-2 : goal.overflow_add-a-2
overflow_add-a-2 c =
    let image = c.args.self.now in
    let valid = c.marked_image_is_valid.ensures in
    let inside = live-inside image valid c.args.a c.requires in
    let few = valid.limits.few_words in
    omega arith

pub returns : goal.returns
returns c =
    let image = c.args.self.now in
    let a = c.args.a in
    let begin = c.next_begin.result in
    let dead = c.next_dead_before.result in
    let next : c.unwrap_or-next.result ≡ unwrap_or begin 18446744073709551615 = c.unwrap_or-next.ensures in
    let first = subst (λ (n : ℕ). MatchOption dead (NoneBetween (is_dead_word image) (a + 1) n) (IsFirstBetween (is_dead_word image) (a + 1) n)) next c.next_dead_before.ensures in
    let is = object_end-is image c.marked_image_is_valid.ensures a begin dead c.requires c.next_begin.ensures first in
    let found : IsObjectEnd image a c.unwrap_or.result = subst (IsObjectEnd image a) (sym (c.unwrap_or.ensures ∙ ap (unwrap_or dead) next)) is in
    record { after = found.after; last = found.last }
