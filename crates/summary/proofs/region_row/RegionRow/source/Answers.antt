use Rattle.std.proofs.Common.{◌≡◌, ℕ, zero, suc, ◌-◌, ◌<◌, sym, ◌∙◌, ap, arith}
use Rattle.std.specs.Prelude.{Some}
use Rattle.summary.specs.RegionRow.{source_of}
use Rattle.summary.specs.declared.region_data.RegionData.{RegionData}
use Rattle.summary.proofs.region_row.RegionRow.source.Goals as goal

-- a number that isn't 0 is that of the region one below
counted_back : (n : ℕ) → 0 < n → Some (n - 1) ≡ source_of n
counted_back zero l = let no : ⊥ = omega arith in absurd no
counted_back (suc s) l = ap Some (let back : suc s - 1 ≡ s = omega arith in back)

pub returns-in-0 : goal.returns-in-0
returns-in-0 c = sym (ap source_of c.in-0.is) ∙ ap (λ (k : RegionData). k.source) c.self.view_is

pub returns-in_default : goal.returns-in_default
returns-in_default c =
    let some = c.in_default in
    counted_back c.self.inside.source (omega arith) ∙ ap (λ (k : RegionData). k.source) c.self.view_is
