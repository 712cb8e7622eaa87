use Rattle.std.proofs.Common.{◌≡◌, [], ◌∷◌, ◌++◌, length, append_assoc, ap, ◌∙◌, subst, arith}
use Rattle.claim_board.specs.Boards.{AllOf, AllBare}
use Rattle.claim_board.proofs.Lemmas.Meets.{gathers}
use Rattle.claim_board.proofs.Lemmas.Gathers.{all_of_front, bare_front, covers_one, covers_more, all_stand}
use Rattle.claim_board.proofs.finish.gather.Goals as goal

pub loop-pass-init : goal.loop-pass-init
loop-pass-init c =
    let z = c.args.words.now.table_id in
    let p = c.in_ok-place.field-0 in
    let all = all_of_front z c.pop.new.self.items p (subst (AllOf z) c.in_ok-place.ensures.items c.requires.all) in
    let bare = bare_front c.pop.new.self.items p (subst AllBare c.in_ok-place.ensures.items c.requires.bare) in
    (all.1, all.0, bare.0, (p ∷ [], c.in_ok-place.ensures.items, covers_one c.args.words.now.key.workers p p.single))

pub join_seat-requires : goal.join_seat-requires
join_seat-requires c =
    let z = c.args.words.now.table_id in
    let p = c.in-Some.pass in
    let i = c.loop-pass.invariant in
    let all = all_of_front z c.pop-in-loop-pass.new.self.items p (subst (AllOf z) c.in-Some.ensures.items i.1) in
    let bare = bare_front c.pop-in-loop-pass.new.self.items p (subst AllBare c.in-Some.ensures.items i.2) in
    (i.0, all.1, bare.1, (let y = c.requires.size in omega arith), gathers c.args.words.now.key c.loop-pass.place.id p.place.id c.loop-pass.place.me.0 p.place.me.0)

pub loop-pass-preserved : goal.loop-pass-preserved
loop-pass-preserved c =
    let z = c.args.words.now.table_id in
    let p = c.in-Some.pass in
    let i = c.loop-pass.invariant in
    let j = c.join_seat.ensures in
    let all = all_of_front z c.pop-in-loop-pass.new.self.items p (subst (AllOf z) c.in-Some.ensures.items i.1) in
    let bare = bare_front c.pop-in-loop-pass.new.self.items p (subst AllBare c.in-Some.ensures.items i.2) in
    let rest = i.3 in (
      j.0 ∙ i.0,
      all.0,
      bare.0,
      (
        p ∷ rest.0,
        rest.1 ∙ (ap (λ l. l ++ rest.0) c.in-Some.ensures.items ∙ append_assoc c.pop-in-loop-pass.new.self.items (p ∷ []) rest.0),
        covers_more c.args.words.now.key.workers c.loop-pass.place.me.0.holds c.join_seat.new.seat.me.0.holds p rest.0 p.single (ap (λ m. m.0.holds) j.2) rest.2,
      ),
    )

pub returns-clause-covers : goal.returns-clause-covers
returns-clause-covers c =
    let i = c.loop-pass.invariant.3 in
    let none : length c.loop-pass.passes.items ≡ 0 = (let x = c.in_default.ensures.cases in let o = c.loop-pass.passes.ok in omega arith) in
    λ log fits. all_stand c.args.words.now.key.workers log c.loop-pass.place.me.0.holds c.args.passes.items c.loop-pass.passes.items i.0 none i.1 i.2 fits
