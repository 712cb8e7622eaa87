-- How many words regions have, and how many bytes numbers.
use Rattle.std.proofs.Common.{◌≡◌, ℕ, ◌*◌, ◌%◌, ◌^◌, ◌≤◌, List, [], ◌∷◌, length, refl, arith, length-append}
use Rattle.std.proofs.Math.Nat.{mod-eq_of_lt, pow-le-pow_right}
use Rattle.std.proofs.lemmas.List.Elements.{All-head, All-tail}
use Rattle.std.specs.Prelude.{All}
use Rattle.std.specs.List.{concat}
use Rattle.image_streams.specs.Numbers.{numbers}

pub length-numbers : (xs : List ℕ) → length (numbers xs) ≡ 8 * length xs
length-numbers [] = refl
length-numbers (x ∷ xs) = let more = length-numbers xs in omega arith

-- the words of regions of r words each
pub length-concat : (r : ℕ) (blocks : List (List ℕ)) → All (λ block. length block ≡ r) blocks → length (concat blocks) ≡ length blocks * r
length-concat r [] h = omega arith
length-concat r (b ∷ blocks) h =
    let one : length b ≡ r = All-head (λ block. length block ≡ r) b blocks h in
    let more : length (concat blocks) ≡ length blocks * r = length-concat r blocks (All-tail (λ block. length block ≡ r) b blocks h) in
    let both = length-append b (concat blocks) in
    omega arith

-- the words of a region, as they are shifted
pub region_few : (log : ℕ) → log ≤ 20 → 1 * 2 ^ log % 18446744073709551616 ≤ 1048576
region_few log high =
    let few : 2 ^ log ≤ 2 ^ 20 = pow-le-pow_right {n = 2} (omega arith) high in
    let same : 1 * 2 ^ log % 18446744073709551616 ≡ 1 * 2 ^ log = mod-eq_of_lt (omega arith) in
    omega arith
