-- The parts of a token. Assumes `Logic`.
--     some, everything      numbers of parts that a share may have
--     cut, glue      parts are two numbers of parts, and two numbers of parts are their sum
--     is_whole, is_all      all parts are the token, and the token is all parts
use Rattle.std.proofs.Common.{◌≡◌, ℕ, ◌+◌, ◌-◌, ◌≤◌, refl, subst, arith}
use native.Mathlib.Nat.{min-eq_left, min-le_right}
use seplogic.Ra.Ura.{Ura}
use mathlib.Mathlib.Data.Part.{◌∈◌}
use base.Fraction.{full_share}
use base.FractionLaws.{Counts, counts_some, Counts-op, Counts-all}
use base.Fml.{Share}
use base.Share
use base.Logic.{ent, sep, via}
use types.Logic.{Logic}
use Rattle.read_shares.specs.Fraction.{fraction, nearest}
use Rattle.read_shares.specs.Parts.{IsSome, all_parts}
use Rattle.read_shares.specs.ReadShare.{term}

is_nearest : (k : ℕ) → IsSome k → nearest k ≡ k
is_nearest k is = let low : k - 1 ≤ all_parts - 1 = omega (arith, is.at_most) in let same = min-eq_left low in omega (arith, is.nonempty)

counted : (k : ℕ) → IsSome k → Counts 63 (fraction k) k
unfolding fraction
counted k is = let most = min-le_right (k - 1) (all_parts - 1) in subst (Counts 63 (fraction k)) (is_nearest k is) (counts_some 63 (nearest k) (omega arith) (omega arith)).1

pub some : (k : ℕ) → 1 ≤ k → k ≤ all_parts → IsSome k
some k nonempty at_most = record { nonempty = nonempty; at_most = at_most }

pub everything : IsSome all_parts
everything = some all_parts (omega arith) (omega arith)

-- a fraction that is so many parts is two that are as many together
is_sum : (i j k : ℕ) (q : Share) → Counts 63 q k → IsSome i → IsSome j → i + j ≡ k → q ∈ Share.op (fraction i) (fraction j)
is_sum i j k q is a b sum = Counts-op 63 (fraction i) (fraction j) q i j k (counted i a) (counted j b) is sum

module _ {M : Type 1} {𝓤 : Ura M} (𝓛 : Logic 𝓤) (n : ℕ) where
  open 𝓛 use {A}

  pub cut : (i j k : ℕ) → IsSome i → IsSome j → IsSome k → i + j ≡ k → ent 𝓤 (A.lft (term n) (fraction k)) (sep 𝓤 (A.lft (term n) (fraction i)) (A.lft (term n) (fraction j)))
  cut i j k a b c sum = 𝓛.lfts.lft_cut (term n) (fraction k) (fraction i) (fraction j) (is_sum i j k (fraction k) (counted k c) a b sum)

  pub glue : (i j : ℕ) → IsSome i → IsSome j → IsSome (i + j) → ent 𝓤 (sep 𝓤 (A.lft (term n) (fraction i)) (A.lft (term n) (fraction j))) (A.lft (term n) (fraction (i + j)))
  glue i j a b c = 𝓛.lfts.lft_glue (term n) (fraction (i + j)) (fraction i) (fraction j) (is_sum i j (i + j) (fraction (i + j)) (counted (i + j) c) a b refl)

  -- a token is known by its number of parts, where it can be cut
  recounted : (q r : Share) → Counts 63 q all_parts → Counts 63 r all_parts → ent 𝓤 (A.lft (term n) q) (A.lft (term n) r)
  recounted q r is will =
      let one : IsSome 1 = some 1 (omega arith) (omega arith) in let rest : IsSome (all_parts - 1) = some (all_parts - 1) (omega arith) (omega arith) in
      via 𝓤 (sep 𝓤 (A.lft (term n) (fraction 1)) (A.lft (term n) (fraction (all_parts - 1))))
      (𝓛.lfts.lft_cut (term n) q (fraction 1) (fraction (all_parts - 1)) (is_sum 1 (all_parts - 1) all_parts q is one rest (omega arith)))
      (𝓛.lfts.lft_glue (term n) r (fraction 1) (fraction (all_parts - 1)) (is_sum 1 (all_parts - 1) all_parts r will one rest (omega arith)))

  pub is_whole : ent 𝓤 (A.lft (term n) (fraction all_parts)) (A.lft (term n) full_share)
  is_whole = recounted (fraction all_parts) full_share (counted all_parts everything) (Counts-all 63)

  pub is_all : ent 𝓤 (A.lft (term n) full_share) (A.lft (term n) (fraction all_parts))
  is_all = recounted full_share (fraction all_parts) (Counts-all 63) (counted all_parts everything)
