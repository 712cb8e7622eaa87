use Rattle.std.proofs.Common.{◌≡◌, ◌<◌, [], inr, subst}
use Rattle.std.specs.Prelude.{All, filter}
use Rattle.std.specs.List.{range_with_len}
use Rattle.object_heap.specs.Bits.{MarkBegins, has}
use Rattle.heap_image.proofs.Lemmas.Marked.{listed_below, live_is, live_inside, live_begins, root_fault, no_root_fault}
use Rattle.heap_image.proofs.Lemmas.WellFormed.{reached_well}
use Rattle.heap_image.proofs.marking.find_reachable.Goals as goal

pub returns-in-Some-clause-fault : goal.returns-in-Some-clause-fault
returns-in-Some-clause-fault g c =
    inr (root_fault c.args.heap.now c.args.roots.now [] c.len-words.result c.len-words.ensures.value c.in-Some.index c.misplaced_root.result c.misplaced_root.ensures c.in-Some.is)

pub returns-clause-live : goal.returns-clause-live
returns-clause-live g c =
    let words = c.len-words.result in
    let bits = c.in_ok-marked.marked.bits in
    let live = c.in_ok-live.live.items in
    let is : live ≡ filter (has bits) (range_with_len 0 words) = listed_below c.marks_are_listed.ensures c.args.heap.now c.args.roots.now bits live words c.len-words.ensures.value c.in_ok-marked.ensures.reached c.in_ok-live.ensures in
    live_is c.args.heap.now c.args.roots.now bits live words c.len-words.ensures.value c.in_ok-marked.ensures.reached is (c.reachable_is_the_least_closed.ensures.ascending c.args.heap.now c.args.roots.now)

pub returns-clause-roots : goal.returns-clause-roots
returns-clause-roots g c = no_root_fault c.args.heap.now c.args.roots.now [] c.len-words.result c.len-words.ensures.value c.misplaced_root.result c.misplaced_root.ensures c.in_default.is

pub returns-clause-seen : goal.returns-clause-seen
returns-clause-seen g c =
    let heap = c.args.heap.now in
    let roots = c.args.roots.now in
    let words = c.len-words.result in
    let bits = c.in_ok-marked.marked.bits in
    let live = c.in_ok-live.live.items in
    let is : live ≡ filter (has bits) (range_with_len 0 words) = listed_below c.marks_are_listed.ensures heap roots bits live words c.len-words.ensures.value c.in_ok-marked.ensures.reached c.in_ok-live.ensures in
    let ascending = c.reachable_is_the_least_closed.ensures.ascending heap roots in
    let reached = live_is heap roots bits live words c.len-words.ensures.value c.in_ok-marked.ensures.reached is ascending in
    let inside = subst (λ n. All (λ a. a < n) live) c.len-words.ensures.value (live_inside heap roots bits live words c.len-words.ensures.value c.in_ok-marked.ensures.reached is) in
    record {
      inside = inside;
      begins = subst (λ n. MarkBegins live n bits) c.len-words.ensures.value (live_begins heap roots bits live words c.len-words.ensures.value c.in_ok-marked.ensures.reached is ascending);
      well_formed = λ said. reached_well heap roots live (c.reachable_is_the_least_closed.ensures.closed heap roots) inside reached (c.in_ok-marked.ensures.well_formed said);
    }
