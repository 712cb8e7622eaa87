use Rattle.std.proofs.Common.{◌≡◌, ◌+◌, ◌<◌, ◌∙◌, List, ap, sym, subst, arith, length, take, get_or}
use Rattle.std.specs.Prelude.{Some}
use Rattle.std.proofs.lemmas.Bool.{true≢false}
use Rattle.std.proofs.lemmas.List.{length-set, take_more, take_all}
use Rattle.std.proofs.lemmas.List.Elements.{All-push}
use Rattle.caller_heap.specs.declared.part.Origin.{Origin}
use Rattle.pcompact_c.specs.Handles.{AreFrom, Handle, origin_in}
use Rattle.pcompact_c.proofs.Lemmas.Shares.{behind, next, same_at}
use Rattle.pcompact_c.proofs.end.count_in.Goals.{then-are_from, else-are_from}
use Rattle.pcompact_c.proofs.end.count_in.Goals as goal

-- where the handles so far are from there, and one more is, all of them are
one_more_from : (origin : Origin) (handles : List Handle) (i : _) (d : Handle) → i < length handles → AreFrom origin (take i handles)
    → origin_in (get_or handles i d) ≡ Some origin → AreFrom origin (take (i + 1) handles)
one_more_from origin handles i d inside so_far here =
    subst (AreFrom origin) (sym (take_more handles i d inside)) (All-push (λ h. origin_in h ≡ Some origin) (take i handles) (get_or handles i d) so_far here)

pub loop-handle-preserved : goal.loop-handle-preserved
loop-handle-preserved c =
    let l = c.loop-handle in
    let i = l.handle-index in
    let h = c.count_in-is_from.new.self in
    let old = c.args.handles.now in
    let item = c.handle-item.result in
    let inside = c.loop-handle-test.true in
    record {
      long = length-set l.handles i h ∙ l.invariant.long;
      rest = behind l.handles old i h l.invariant.rest;
      parts = same_at (λ (g : Handle). g.2) l.handles i h item (let long = l.invariant.long in omega arith) c.count_in-is_from.ensures.part ∙ l.invariant.parts;
      origin = λ holds. elim c.if-are_from.branch [
        | then-are_from w ↦
            let same = ap origin_in (sym (next l.handles old i item l.invariant.rest)) in
            one_more_from c.args.origin old i item inside (l.invariant.origin w.if-are_from.true) (same ∙ c.count_in-is_from.ensures.origin (sym w.are_from-is ∙ holds))
        | else-are_from w ↦ absurd (true≢false (sym (sym w.if-are_from.false ∙ sym w.are_from-is ∙ holds)))
      ];
    }

pub returns-clause-origin : goal.returns-clause-origin
returns-clause-origin c holds =
    subst (AreFrom c.args.origin) (take_all c.loop-handle.handle-index c.args.handles.now (let end = c.loop-handle-test.false in omega arith)) (c.loop-handle.invariant.origin holds)
