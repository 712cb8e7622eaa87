use Rattle.std.proofs.Common.{◌≡◌, ℕ, ◌<◌, List, length, get_or, ap, arith}
use Rattle.std.proofs.lemmas.List.FromFn.{length-map-range_with_len, get_or-map-range_with_len}
use Rattle.summary.specs.Ranks.{rank_of, ranks_of}
use Rattle.summary.proofs.plan.ranks.RankSlices.get.Goals as goal

-- word i has a rank
inside : (starts steps now : List ℕ) (i : ℕ) → ranks_of starts steps ≡ now → i < length now → i < length steps
inside starts steps now i is l =
    let long = length-map-range_with_len (rank_of starts steps) 0 (length steps) in
    let same = ap length is in
    omega arith

pub bounds-self-inside-i : goal.bounds-self-inside-i
bounds-self-inside-i c =
    let l = c.self.invariant.covered c.args.i
    (inside c.self.inside.starts.now c.self.inside.steps.now c.args.self.now c.args.i c.self.view_is c.requires) in
    omega arith

pub bounds-self-inside-i-2 : goal.bounds-self-inside-i-2
bounds-self-inside-i-2 c =
    let l = inside c.self.inside.starts.now c.self.inside.steps.now c.args.self.now c.args.i c.self.view_is c.requires in
    omega arith

pub offset_bounds-self-inside-i-2 : goal.offset_bounds-self-inside-i-2
offset_bounds-self-inside-i-2 c =
    let l = inside c.self.inside.starts.now c.self.inside.steps.now c.args.self.now c.args.i c.self.view_is c.requires in
    let told = c.self.told.1.1 in
    omega arith

pub overflow_add-result : goal.overflow_add-result
overflow_add-result c =
    let l = inside c.self.inside.starts.now c.self.inside.steps.now c.args.self.now c.args.i c.self.view_is c.requires in
    let step = c.from.ensures in
    let small = c.self.invariant.fit c.args.i l in
    omega arith

pub returns : goal.returns
returns c =
    let starts : List ℕ = c.self.inside.starts.now in
    let steps : List ℕ = c.self.inside.steps.now in
    let i : ℕ = c.args.i in
    let l = inside starts steps c.args.self.now i c.self.view_is c.requires in
    let at = get_or-map-range_with_len (rank_of starts steps) 0 (length steps) i i 0 l (omega arith) in
    let same = ap (λ ranks. get_or ranks i 0) c.self.view_is in
    let step = c.from.ensures in
    omega arith
