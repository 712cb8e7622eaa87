use Rattle.std.proofs.Common.{◌≡◌, ◌^◌, All, List, ℕ, rules, sym, subst, length}
use Rattle.std.proofs.lemmas.List.Elements.{All-push}
use Rattle.dump_objects.proofs.heap.UnsealedHeap.new.Goals as goal

pub new-requires-clause-at_most : goal.new-requires-clause-at_most
new-requires-clause-at_most c = c.regions_by_log.ensures.few c.args.region_log c.requires.high

pub loop-r-preserved : goal.loop-r-preserved
loop-r-preserved c =
    let IsWhole : List ℕ → Type 0 = λ block. length block ≡ 2 ^ c.args.region_log in
    subst (λ blocks. All IsWhole blocks) (sym c.in_ok-push.ensures.items)
    (All-push IsWhole c.loop-r.regions.items c.in_ok-new.field-0 c.loop-r.invariant (search (rules, c.in_ok-new.ensures.length)))
