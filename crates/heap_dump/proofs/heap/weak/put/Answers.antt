use Rattle.std.proofs.Common.{◌≡◌, ◌∙◌, ℕ, List, [], ◌∷◌, ◌*◌, ◌/◌, ◌%◌, ◌^◌, ◌<◌, ◌≤◌, get_or, set, ap, ap₂, sym, subst, All, arith}
use Rattle.std.specs.List.{concat}
use Rattle.std.proofs.lemmas.List.{get_or_default}
use Rattle.std.proofs.lemmas.List.Elements.{All-set}
use Rattle.std.proofs.lemmas.Nat.{mod_below}
use Rattle.std.proofs.Math.Nat.{div-add-mod', one-le-pow}
use Rattle.heap_dump.specs.Weak.{DifferOnlyAt}
use Rattle.heap_dump.proofs.Lemmas.WeakWords.{concat_set, differ_one}
use Rattle.heap_dump.proofs.heap.weak.put.Goals as goal

-- the word is set in the words of the whole heap
is_set : (c : goal.After-set) → concat (set c.args.regions.now (c.args.address / 2 ^ c.args.region_log) c.set.new.self) ≡ set (concat c.args.regions.now) c.args.address c.args.word
is_set c =
    let log = c.args.region_log in
    let r = 2 ^ log in
    let some : 0 < r = (let one : 1 ≤ 2 ^ log = one-le-pow log 2 (omega arith) in omega arith) in
    let a = c.args.address in
    let word = c.args.word in
    let i = a / r in
    let regions : List (List ℕ) = c.args.regions.now in
    let inside = c.if-index-regions.true in
    let is : c.set.new.self ≡ set (get_or regions i []) (a % r) word =
    c.set.ensures.value ∙ ap₂ (λ (b : List ℕ) j. set b j word) (get_or_default regions i c.index-regions-index.result [] inside) (c.regions_by_log.ensures.place log a c.requires.high) in
    ap (λ (b : List ℕ). concat (set regions i b)) is
    ∙ concat_set r regions c.requires.whole i (a % r) word inside (mod_below a r some)
    ∙ ap (λ n. set (concat regions) n word) (div-add-mod' a r)

pub returns-then-index-regions-clause-others : goal.returns-then-index-regions-clause-others
returns-then-index-regions-clause-others c =
    let before : List ℕ = concat c.args.regions.now in
    subst (λ words. DifferOnlyAt (c.args.address ∷ []) before words) (sym (is_set c)) (differ_one before c.args.address c.args.word)

pub returns-then-index-regions-clause-fit : goal.returns-then-index-regions-clause-fit
returns-then-index-regions-clause-fit c =
    let before : List ℕ = concat c.args.regions.now in
    subst (λ words. All (λ w. w < 2 ^ 64) words) (sym (is_set c)) (All-set (λ w. w < 2 ^ 64) before c.args.address c.args.word (omega arith) c.requires.fit)
