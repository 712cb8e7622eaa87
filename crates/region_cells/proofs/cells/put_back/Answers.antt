use Rattle.std.proofs.Common.{◌≡◌, ◌<◌, ◌+◌, ℕ, [], ◌∷◌, ◌++◌, List, Option, Some, take, drop, length, sym, ap, subst, ◌∙◌, get_or, arith, rules}
use Rattle.std.specs.Prelude.{map, IfSome}
use Rattle.std.specs.List.{enumerate_from}
use Rattle.std.specs.Iterator.{Count, MakesProgress}
use Rattle.std.specs.Iterator.Adapters.{enumerate_source}
use Rattle.std.proofs.lemmas.Iterator.Consumers.{YieldsList-turn, YieldsList-end, YieldsList-from_enumerate}
use Rattle.std.proofs.lemmas.Iterator.Adapters.{YieldsList-from_vec}
use Rattle.std.proofs.lemmas.List.{append-nil, append_assoc, drop_at, length-append, length-map, length-take-le, length_push, map_push, take_all, take_at, take_more}
use Rattle.std.proofs.lemmas.List.FromFn.{length-enumerate_from, get_or-enumerate_from}
use Rattle.region_cells.specs.Blocks.{final_block}
use Rattle.region_cells.specs.Views.{ImageRegion}
use Rattle.region_cells.proofs.cells.put_back.Goals as goal

-- an iterator that returned an item may be called again
keeps : {S A : Type 0} {can : S → Type 0} {left : S → Count} {s t : S} {r : Option A} (x : A) → MakesProgress can left s r t → r ≡ Some x → can t
keeps {can = can} {t = t} x goes is = subst (λ r. IfSome r (λ _. can t)) is goes.keeps

-- the k-th slot, by its number
pub record IsSlot (slots : List ImageRegion) (k r : ℕ) (slot : ImageRegion) : Type 0 where
  pub inside : k < length slots
  pub number : r ≡ k
  pub found : slot ≡ get_or slots k slot

slot-at : (slots : List ImageRegion) (k r : ℕ) (slot : ImageRegion)
    → k < length (enumerate_from 0 slots) → (r, slot) ≡ get_or (enumerate_from 0 slots) k (r, slot) → IsSlot slots k r slot
slot-at slots k r slot few at =
    let inside : k < length slots = omega (arith, few, length-enumerate_from 0 slots) in
    let both : (r, slot) ≡ (0 + k, get_or slots k slot) = at ∙ get_or-enumerate_from 0 slots k (r, slot) inside in
    record { inside = inside; number = ap (λ p. p.0) both ∙ omega arith; found = ap (λ p. p.1) both }

-- one more region behind the others
one_more : (f : ImageRegion → List ℕ) (slots : List ImageRegion) (others : List (List ℕ)) (k : ℕ) (slot : ImageRegion) → k < length slots → slot ≡ get_or slots k slot
    → (others ++ map f (take k slots)) ++ f slot ∷ [] ≡ others ++ map f (take (k + 1) slots)
one_more f slots others k slot inside found =
    append_assoc others (map f (take k slots)) (f slot ∷ [])
    ∙ ap (λ xs. others ++ xs) (sym (map_push f (take k slots) slot)
    ∙ ap (λ s. map f (take k slots ++ s ∷ [])) found
    ∙ ap (map f) (sym (take_more slots k slot inside)))

-- how many regions stand in the list so far
count : (f : ImageRegion → List ℕ) (slots : List ImageRegion) (others : List (List ℕ)) (k : ℕ) → k < length slots → length (others ++ map f (take k slots)) ≡ length others + k
count f slots others k inside =
    omega (arith, length-append others (map f (take k slots)), length-map (take k slots) f, length-take-le k slots (omega (arith, inside)))

pub loop-r-init : goal.loop-r-init
loop-r-init c = (search rules, tt, sym (append-nil c.args.regions.now.items), c.requires.room)

pub overflow_cast-result : goal.overflow_cast-result
overflow_cast-result c =
    let xs = c.args.slots.items in
    let k = length c.loop-r.yielded in
    let e = YieldsList-from_enumerate {s = c.into_iter-r-iterator.result} (YieldsList-from_vec {s = enumerate_source c.into_iter-r-iterator.result} xs (search rules) (search rules)) (search rules) in
    let t = YieldsList-turn e c.loop-r.yielded c.loop-r.r-iterator c.loop-r.yielded_by _ c.next.new.self (c.in-Some.r, c.in-Some.slot) c.in-Some.is c.next.ensures.steps in
    let s = slot-at xs k c.in-Some.r c.in-Some.slot t.0 t.1 in
    omega (arith, s.inside, s.number, c.requires.few)

pub returns-in_default-clause-number : goal.returns-in_default-clause-number
returns-in_default-clause-number c =
    let xs = c.args.slots.items in
    let k = length c.loop-r.yielded in
    let e = YieldsList-from_enumerate {s = c.into_iter-r-iterator.result} (YieldsList-from_vec {s = enumerate_source c.into_iter-r-iterator.result} xs (search rules) (search rules)) (search rules) in
    let t = YieldsList-turn e c.loop-r.yielded c.loop-r.r-iterator c.loop-r.yielded_by _ c.next.new.self (c.in-Some.r, c.in-Some.slot) c.in-Some.is c.next.ensures.steps in
    let s = slot-at xs k c.in-Some.r c.in-Some.slot t.0 t.1 in
    omega (arith, s.inside, s.number)

pub add-requires : goal.add-requires
add-requires c =
    let xs = c.args.slots.items in
    let k = length c.loop-r.yielded in
    let e = YieldsList-from_enumerate {s = c.into_iter-r-iterator.result} (YieldsList-from_vec {s = enumerate_source c.into_iter-r-iterator.result} xs (search rules) (search rules)) (search rules) in
    let t = YieldsList-turn e c.loop-r.yielded c.loop-r.r-iterator c.loop-r.yielded_by _ c.next.new.self (c.in-Some.r, c.in-Some.slot) c.in-Some.is c.next.ensures.steps in
    let s = slot-at xs k c.in-Some.r c.in-Some.slot t.0 t.1 in
    let others = c.args.regions.now in
    let inv = c.loop-r.invariant in
    omega (arith, s.inside, c.loop-r.regions.ok.0, ap length inv.2, count (final_block c.args.has_moved) xs others.items k s.inside, others.ok.0, inv.3)

pub loop-r-preserved : goal.loop-r-preserved
loop-r-preserved c =
    let xs = c.args.slots.items in
    let k = length c.loop-r.yielded in
    let e = YieldsList-from_enumerate {s = c.into_iter-r-iterator.result} (YieldsList-from_vec {s = enumerate_source c.into_iter-r-iterator.result} xs (search rules) (search rules)) (search rules) in
    let t = YieldsList-turn e c.loop-r.yielded c.loop-r.r-iterator c.loop-r.yielded_by _ c.next.new.self (c.in-Some.r, c.in-Some.slot) c.in-Some.is c.next.ensures.steps in
    let s = slot-at xs k c.in-Some.r c.in-Some.slot t.0 t.1 in
    let others = c.args.regions.now.items in
    let inv = c.loop-r.invariant in
    let f = final_block c.args.has_moved in
    let more = length_push c.loop-r.yielded (c.in-Some.r, c.in-Some.slot) in (
      keeps (c.in-Some.r, c.in-Some.slot) c.next.ensures.goes c.in-Some.is,
      tt,
      c.add.ensures.items
          ∙ ap (λ l. l ++ c.in-Some-final_region.region ∷ []) inv.2
          ∙ ap (λ w. (others ++ map f (take k xs)) ++ w ∷ []) c.in-Some-final_region.ensures
          ∙ one_more f xs others k c.in-Some.slot s.inside s.found
          ∙ ap (λ m. others ++ map f (take m xs)) (sym more),
      omega (arith, inv.3, c.add.ensures.capacity),
    )

pub returns-clause-regions : goal.returns-clause-regions
returns-clause-regions c =
    let xs = c.args.slots.items in
    let others = c.args.regions.now.items in
    let n = c.len-others.result in
    let e = YieldsList-from_enumerate {s = c.into_iter-r-iterator.result} (YieldsList-from_vec {s = enumerate_source c.into_iter-r-iterator.result} xs (search rules) (search rules)) (search rules) in
    let all = YieldsList-end e c.loop-r.yielded c.loop-r.r-iterator c.loop-r.yielded_by _ c.next.new.self c.in-None.is c.next.ensures.steps in
    let many : length c.loop-r.yielded ≡ length xs = all.1 ∙ length-enumerate_from 0 xs in
    let moved = map (final_block c.args.has_moved) xs in
    let items : c.loop-r.regions.items ≡ others ++ moved =
    c.loop-r.invariant.2 ∙ ap (λ ys. others ++ map (final_block c.args.has_moved) ys) (take_all (length c.loop-r.yielded) xs (omega (arith, many))) in
    let long : length others ≡ n = omega (arith, c.len-others.ensures, c.args.regions.now.ok.0) in
    c.rotate_left.ensures.items
    ∙ ap (λ l. drop n l ++ take n l) items
    ∙ ap (λ l. l ++ take n (others ++ moved)) (drop_at others moved n long)
    ∙ ap (λ l. moved ++ l) (take_at others moved n long)
