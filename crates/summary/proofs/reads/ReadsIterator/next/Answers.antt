use Rattle.std.proofs.Common.{◌≡◌, ℕ, ◌+◌, ◌<◌, List, [], ◌∷◌, length, get_or, sym, ◌∙◌, ap, arith}
use Rattle.std.proofs.lemmas.List.{get_or_default}
use Rattle.summary.specs.Reads.{no_data, sources_below}
use Rattle.summary.specs.declared.region_data.RegionData.{RegionData}
use Rattle.summary.proofs.Lemmas.ReadSteps.{none_left, next_is, none_below, next_below}
use Rattle.summary.proofs.reads.ReadsIterator.next.Goals as goal

-- the destination that was read
read : (regions : List RegionData) (s to : ℕ) (row : RegionData) → s < length regions → to ≡ (get_or regions s row).destination → to ≡ (get_or regions s no_data).destination
read regions s to row l is = is ∙ ap (λ (k : RegionData). k.destination) (get_or_default regions s row no_data l)

pub returns-in_err-source-clause-steps : goal.returns-in_err-source-clause-steps
returns-in_err-source-clause-steps c =
    let none : c.args.self.now ≡ [] = sym c.self.view_is ∙ none_left c.self.inside.regions.now c.self.inside.end c.self.inside.next (sym c.in_err-source.ensures) in
    rw c.from_residual.ensures (none, none)

pub returns-then-destination-self-clause-steps : goal.returns-then-destination-self-clause-steps
returns-then-destination-self-clause-steps c =
    let regions = c.self.inside.regions.now in
    let end = c.self.inside.end in
    let next = c.self.inside.next in
    let i = c.in_ok-source.field-0 in
    let is = next_is regions end next i (sym c.in_ok-source.ensures) in
    let none : c.args.self.now ≡ [] = sym c.self.view_is ∙ none_below regions end next i c.self.invariant.1 is (let to = read regions (next + i) c.destination.result c.index-self-source.result is.inside c.destination.ensures in let past = c.if-destination-self.true in omega arith) in
    (none, none)

pub returns-clause-steps : goal.returns-clause-steps
returns-clause-steps c =
    let regions = c.self.inside.regions.now in
    let end = c.self.inside.end in
    let next = c.self.inside.next in
    let i = c.in_ok-source.field-0 in
    let is = next_is regions end next i (sym c.in_ok-source.ensures) in
    sym c.self.view_is ∙ next_below regions end next i is (let to = read regions (next + i) c.destination.result c.index-self-source.result is.inside c.destination.ensures in let below = c.if-destination-self.false in omega arith)

pub returns-clause-goes : goal.returns-clause-goes
returns-clause-goes c =
    let regions = c.self.inside.regions.now in
    let end = c.self.inside.end in
    let next = c.self.inside.next in
    let i = c.in_ok-source.field-0 in
    let is = next_is regions end next i (sym c.in_ok-source.ensures) in
    let step : c.args.self.now ≡ (next + i) ∷ sources_below end (next + i + 1) regions = sym c.self.view_is ∙ next_below regions end next i is (let to = read regions (next + i) c.destination.result c.index-self-source.result is.inside c.destination.ensures in let below = c.if-destination-self.false in omega arith) in
    let shorter : length (sources_below end (next + i + 1) regions) < length c.args.self.now = omega (arith, ap length step) in
    record { on = λ f. (tt, tt, shorter); keeps = tt; rests = λ f. tt }
