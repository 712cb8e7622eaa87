use Rattle.std.proofs.Common.{◌≡◌, ◌∙◌, List, [], ◌∷◌, ◌++◌, ap, sym, subst, arith, take, get_or, Box, Vec, Global, Result, Ok, Err}
use Rattle.std.specs.Prelude.{Option, Some, None, IfOk, MatchOption, MatchResult, map, option_and_then}
use Rattle.std.proofs.lemmas.List.{length-set, map-append, take_more}
use Rattle.image_streams.specs.declared.fault.Fault.{Fault}
use Rattle.collector.specs.declared.session.share.Share.{Share}
use Rattle.caller_heap.specs.declared.part.Part.{Part}
use Rattle.pcompact_c.specs.Handles.{Handle, share_in}
use Rattle.pcompact_c.proofs.Lemmas.Shares.{behind, next, one_more, all_of}
use Rattle.pcompact_c.proofs.end.take_shares.Goals as goal

-- where the shares were those of the first handles, they are so with that of one more
grown : (before after : Result (Vec Share Global) Fault) (part : Option (Box Part Global)) (first : List Handle) (h : Handle)
    → IfOk before (λ shares. map share_in first ≡ map Some shares.items)
    → MatchOption part (h.2 ≡ None) (λ b. h.2 ≡ Some b.value)
    → IfOk after (λ all. MatchResult before (λ so_far. MatchOption part ⊥ (λ more. map Some all.items ≡ map Some so_far.items ++ more.value.share ∷ [])) (λ _. ⊥))
    → IfOk after (λ all. map share_in (first ++ h ∷ []) ≡ map Some all.items)
grown before (Err fault) part first h so_far is made = tt
grown (Err fault) (Ok all) part first h so_far is made = absurd made
grown (Ok shares) (Ok all) None first h so_far is made = absurd made
grown (Ok shares) (Ok all) (Some more) first h so_far is made =
    map-append share_in first (h ∷ [])
    ∙ ap (λ xs. xs ++ share_in h ∷ []) so_far
    ∙ ap (λ x. map Some shares.items ++ option_and_then (λ (part : Part). part.share) x ∷ []) is
    ∙ sym made

pub loop-handle-preserved : goal.loop-handle-preserved
loop-handle-preserved c =
    let l = c.loop-handle in
    let i = l.handle-index in
    let h = c.leave.new.self in
    let old = c.args.handles.now in
    let item = c.handle-item.result in
    let inside = c.loop-handle-test.true in
    let is = subst (λ (g : Handle). MatchOption c.leave.result (g.2 ≡ None) (λ b. g.2 ≡ Some b.value)) (next l.handles old i item l.invariant.rest) c.leave.ensures.part in
    record {
      long = length-set l.handles i h ∙ l.invariant.long;
      rest = behind l.handles old i h l.invariant.rest;
      free = one_more (λ g. g.2 ≡ None) l.handles i h (let long = l.invariant.long in omega arith) l.invariant.free c.leave.ensures.none;
      shares = subst (λ first. IfOk c.with_share-taken.result (λ all. map share_in first ≡ map Some all.items)) (sym (take_more old i item inside))
          (grown l.taken c.with_share-taken.result c.leave.result (take i old) (get_or old i item) l.invariant.shares is c.with_share-taken.ensures.shares);
      fault = c.with_share-taken.ensures.fault;
    }

pub returns-clause-free : goal.returns-clause-free
returns-clause-free c = all_of (λ g. g.2 ≡ None) c.loop-handle.handles c.loop-handle.handle-index
    (let end = c.loop-handle-test.false in let long = c.loop-handle.invariant.long in omega arith) c.loop-handle.invariant.free
