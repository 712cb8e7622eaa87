-- Which words lead somewhere, by their distance from the reference to address 0, rotated.
use Rattle.std.proofs.Common.{◌≡◌, ℕ, ◌+◌, ◌-◌, ◌*◌, ◌/◌, ◌%◌, ◌^◌, ◌≤◌, ◌<◌, inl, inr, true, ◌&&◌, sym, ◌∙◌, ap, subst, arith, ltb, leb, eqb, mul_comm, w64}
use Rattle.std.specs.Int.{rotate_right}
use Rattle.std.proofs.lemmas.Bool.{cases_Bool, cases_lt, cond-true, cond-false, and_parts, and_from, lt-ltb, le-leb, ltb-true, leb-true, eq-eqb, eqb-true}
use Rattle.std.proofs.lemmas.Nat.{pow_pos, pow-add, div-add-mod'}
use Rattle.std.proofs.Math.Nat.{mul-le-mul_left, mul-le-mul_right, le_of_mul-le-mul_left, mul-add, mul-one, mod-eq_of_lt}
use Rattle.object_heap.specs.Layout.{Coding, is_coded, coded_reference, coded_redirected}
use Rattle.object_coding.proofs.Lemmas.Rotated.{rotated}

module _ (c : Coding) (w : ℕ) (room : c.base + 2 ^ c.unit * c.count ≤ 2 ^ 64) (low : c.unit < 64) (fits : w < 2 ^ 64) (base_fits : c.base < 2 ^ 64) where
  abbrev pub distance : ℕ
  distance = (w + (18446744073709551616 - c.base)) % 18446744073709551616

  abbrev pub turned : ℕ
  turned = rotate_right w64 distance c.unit

  turned_is : turned ≡ distance % 2 ^ c.unit * 2 ^ (64 - c.unit) + distance / 2 ^ c.unit
  turned_is = rotated distance c.unit (omega arith) low

  abbrev U : ℕ
  U = 2 ^ c.unit

  abbrev V : ℕ
  V = 2 ^ (64 - c.unit)

  above : w < c.base → distance ≡ w + (2 ^ 64 - c.base)
  above l = omega arith

  within : c.base ≤ w → distance ≡ w - c.base
  within l = omega arith

  some : 0 < U
  some = pow_pos c.unit

  all : U * V ≡ 2 ^ 64
  all = sym (pow-add 2 c.unit (64 - c.unit)) ∙ ap (λ n. 2 ^ n) (let e : c.unit + (64 - c.unit) ≡ 64 = omega arith in e)

  -- no address is beyond the lowest bits of a rotated word
  few : c.count ≤ V
  few = le_of_mul-le-mul_left {k = U} (let ends : c.base + U * c.count ≤ 2 ^ 64 = room in let e = all in let l : U * c.count ≤ U * V = omega arith in l) some

  -- a word that isn't at the distance of an address is rotated beyond all addresses
  whole : turned < c.count → distance % U ≡ 0
  whole below = elim (cases_lt 0 (distance % U)) [
    | inl odd ↦
        let high : 1 * V ≤ distance % U * V = mul-le-mul_right V (let l : 1 ≤ distance % U = omega arith in l) in
        let is = turned_is in
        let limit = few in
        let no : ⊥ = omega arith in absurd no
    | inr none ↦ omega arith
  ]

  address : distance % U ≡ 0 → turned ≡ distance / U
  address none = turned_is ∙ ap (λ n. n * V + distance / U) none ∙ omega arith

  -- and so is a word below the reference to address 0
  not_below : turned < c.count → c.base ≤ w
  not_below below = elim (cases_lt w c.base) [
    | inl under ↦
        let none = whole below in
        let is = address none in
        let back : distance / U * U + distance % U ≡ distance = div-add-mod' distance U in
        let step : U * (distance / U + 1) ≤ U * c.count = mul-le-mul_left U (let l : distance / U + 1 ≤ c.count = omega arith in l) in
        let one : U * (distance / U + 1) ≡ U * (distance / U) + U = mul-add U (distance / U) 1 ∙ ap (λ n. U * (distance / U) + n) (mul-one U) in
        let turn : U * (distance / U) ≡ distance / U * U = mul_comm U (distance / U) in
        let far = above under in
        let ends : c.base + U * c.count ≤ 2 ^ 64 = room in
        let positive = some in
        let no : ⊥ = omega arith in absurd no
    | inr over ↦ over
  ]

  pub leads : turned < c.count → coded_reference c w ≡ turned + 1
  leads below =
      let low_enough : c.base ≤ w = not_below below in
      let none : distance % U ≡ 0 = whole below in
      let same : distance ≡ w - c.base = within low_enough in
      let is : turned ≡ (w - c.base) / U = address none ∙ ap (λ n. n / U) same in
      let at : (w - c.base) % U ≡ 0 = ap (λ n. n % U) (sym same) ∙ none in
      cond-true (is_coded c w) ((w - c.base) / U + 1) 0
      (and_from (leb c.base w && eqb ((w - c.base) % U) 0) (ltb ((w - c.base) / U) c.count)
      (and_from (leb c.base w) (eqb ((w - c.base) % U) 0) (le-leb c.base w low_enough) (eq-eqb ((w - c.base) % U) 0 at))
      (lt-ltb ((w - c.base) / U) c.count (subst (λ n. n < c.count) is below)))
      ∙ ap (λ n. n + 1) (sym is)

  pub leads_not : c.count ≤ turned → coded_reference c w ≡ 0
  leads_not over = elim (cases_Bool (is_coded c w)) [
    | inl hit ↦
        let outer = and_parts (leb c.base w && eqb ((w - c.base) % U) 0) (ltb ((w - c.base) / U) c.count) hit in
        let inner = and_parts (leb c.base w) (eqb ((w - c.base) % U) 0) outer.0 in
        let same : distance ≡ w - c.base = within (leb-true c.base w inner.0) in
        let at : distance % U ≡ 0 = ap (λ n. n % U) same ∙ eqb-true ((w - c.base) % U) 0 inner.1 in
        let is : turned ≡ (w - c.base) / U = address at ∙ ap (λ n. n / U) same in
        let below : (w - c.base) / U < c.count = ltb-true ((w - c.base) / U) c.count outer.1 in
        let no : ⊥ = omega arith in absurd no
    | inr miss ↦ cond-false (is_coded c w) ((w - c.base) / U + 1) 0 miss
  ]

-- the word in place of one that leads somewhere, which leads where r does
module _ (c : Coding) (w r : ℕ) (room : c.base + 2 ^ c.unit * c.count ≤ 2 ^ 64) (leads_somewhere : 0 < coded_reference c w) (within_heap : r ≤ c.count) (before : ℕ) (is_before : before ≡ r - 1) where
  coded : is_coded c w ≡ true
  coded = elim (cases_Bool (is_coded c w)) [
    | inl hit ↦ hit
    | inr miss ↦
        let none : coded_reference c w ≡ 0 = cond-false (is_coded c w) ((w - c.base) / 2 ^ c.unit + 1) 0 miss in
        let no : ⊥ = omega arith in absurd no
  ]

  below : before + 1 ≤ c.count
  below =
      let outer = and_parts (leb c.base w && eqb ((w - c.base) % 2 ^ c.unit) 0) (ltb ((w - c.base) / 2 ^ c.unit) c.count) coded in
      let some : (w - c.base) / 2 ^ c.unit < c.count = ltb-true ((w - c.base) / 2 ^ c.unit) c.count outer.1 in
      omega arith

  there : c.base + before * 2 ^ c.unit < 2 ^ 64
  there =
      let step : 2 ^ c.unit * (before + 1) ≤ 2 ^ c.unit * c.count = mul-le-mul_left (2 ^ c.unit) below in
      let one : 2 ^ c.unit * (before + 1) ≡ 2 ^ c.unit * before + 2 ^ c.unit = mul-add (2 ^ c.unit) before 1 ∙ ap (λ n. 2 ^ c.unit * before + n) (mul-one (2 ^ c.unit)) in
      let turn : 2 ^ c.unit * before ≡ before * 2 ^ c.unit = mul_comm (2 ^ c.unit) before in
      let positive : 0 < 2 ^ c.unit = pow_pos c.unit in
      omega arith

  shifted : before * 2 ^ c.unit % 18446744073709551616 ≡ before * 2 ^ c.unit
  shifted = mod-eq_of_lt (let l = there in let e : before * 2 ^ c.unit < 18446744073709551616 = omega arith in e)

  pub redirected_fits : c.base + before * 2 ^ c.unit % 18446744073709551616 < 18446744073709551616
  redirected_fits = let l = there in let e = shifted in omega arith

  pub redirected_is : c.base + before * 2 ^ c.unit % 18446744073709551616 ≡ coded_redirected c w r
  redirected_is =
      ap (λ n. c.base + n) (shifted ∙ mul_comm before (2 ^ c.unit))
      ∙ ap (λ n. c.base + 2 ^ c.unit * n) is_before
      ∙ sym (cond-true (is_coded c w) (c.base + 2 ^ c.unit * (r - 1)) w coded)
