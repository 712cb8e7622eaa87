-- The layouts keep what proofs need of them.
use Rattle.std.proofs.Common.{◌≡◌, ℕ, ◌+◌, ◌-◌, ◌*◌, ◌/◌, ◌%◌, ◌^◌, ◌≤◌, ◌<◌, inl, inr, Bool, true, false, ◌&&◌, sym, ◌∙◌, ap, arith, ltb, leb, eqb, mul_comm, refl}
use Rattle.std.proofs.lemmas.Bool.{cases_Bool, cond-true, cond-false, and_parts, and_from, lt-ltb, le-leb, ltb-true, leb-true, eq-eqb, eqb-true}
use Rattle.std.proofs.lemmas.Nat.{shl-shr, pow_pos, mul-le, rows}
use Rattle.std.proofs.Math.Nat.{mul-le-mul_left, mul-add, mul-one, add-mul-div_left, add-mod, mul-add-div, div-eq_of_lt, mul-mod_right, div-add-mod, mod-eq_of_lt}
use Rattle.object_heap.specs.Header.{size_of, filler_header}
use Rattle.object_heap.specs.Layout.{ocaml, scheme48, Coding, Layout, Own, Coded, IsLayout, IsCoding, is_coded, coded_reference, coded_redirected, coded_size, coded_filler}

-- a number in a field that is clear
field_back : (t x m : ℕ) → t % m ≡ 0 → x < m → (t + x) % m ≡ x
field_back t x m clear below =
    add-mod t x m ∙ ap (λ y. (y + x % m) % m) clear ∙ ap (λ y. y % m) (let e : 0 + x % m ≡ x % m = omega arith in e) ∙ ap (λ y. y % m) (mod-eq_of_lt below) ∙ mod-eq_of_lt below

module _ (c : Coding) where
  abbrev U : ℕ
  U = 2 ^ c.unit

  -- the word that leads to an address is coded, and leads there
  placed : (k : ℕ) → k < c.count → is_coded c (c.base + U * k) ≡ true
  placed k l =
      let gone : c.base + U * k - c.base ≡ U * k = omega arith in
      let whole : eqb ((c.base + U * k - c.base) % U) 0 ≡ true = eq-eqb ((c.base + U * k - c.base) % U) 0 (ap (λ d. d % U) gone ∙ mul-mod_right U k) in
      let few : (c.base + U * k - c.base) / U ≡ k = ap (λ d. d / U) gone ∙ ap (λ d. d / U) (mul_comm U k) ∙ shl-shr k c.unit in
      and_from (leb c.base (c.base + U * k) && eqb ((c.base + U * k - c.base) % U) 0) (ltb ((c.base + U * k - c.base) / U) c.count)
      (and_from (leb c.base (c.base + U * k)) (eqb ((c.base + U * k - c.base) % U) 0) (le-leb c.base (c.base + U * k) (omega arith)) whole)
      (lt-ltb ((c.base + U * k - c.base) / U) c.count (let k' : (c.base + U * k - c.base) / U < c.count = omega arith in k'))

  leads_to_place : (k : ℕ) → k < c.count → coded_reference c (c.base + U * k) ≡ k + 1
  leads_to_place k l =
      let gone : c.base + U * k - c.base ≡ U * k = omega arith in
      cond-true (is_coded c (c.base + U * k)) ((c.base + U * k - c.base) / U + 1) 0 (placed k l)
      ∙ ap (λ d. d / U + 1) gone ∙ ap (λ d. d / U + 1) (mul_comm U k) ∙ ap (λ d. d + 1) (shl-shr k c.unit)

  -- of a coded word: its parts
  coded_parts : (w : ℕ) → is_coded c w ≡ true → (c.base ≤ w) × ((w - c.base) % U ≡ 0) × ((w - c.base) / U < c.count)
  coded_parts w h =
      let outer = and_parts (leb c.base w && eqb ((w - c.base) % U) 0) (ltb ((w - c.base) / U) c.count) h in
      let inner = and_parts (leb c.base w) (eqb ((w - c.base) % U) 0) outer.0 in
      (leb-true c.base w inner.0, eqb-true ((w - c.base) % U) 0 inner.1, ltb-true ((w - c.base) / U) c.count outer.1)

  pub coded-leads : (words : ℕ) → IsCoding c words → (w r : ℕ) → 0 < coded_reference c w → 0 < r → r ≤ words → coded_reference c (coded_redirected c w r) ≡ r
  coded-leads words ok w r some low high = elim (cases_Bool (is_coded c w)) [
    | inl hit ↦
        let all = ok.all in
        let below : r - 1 < c.count = omega arith in
        ap (coded_reference c) (cond-true (is_coded c w) (c.base + U * (r - 1)) w hit)
        ∙ leads_to_place (r - 1) below ∙ omega arith
    | inr miss ↦
        let none : coded_reference c w ≡ 0 = cond-false (is_coded c w) ((w - c.base) / U + 1) 0 miss in
        let no : ⊥ = omega arith in absurd no
  ]

  pub coded-stays : (w : ℕ) → coded_redirected c w (coded_reference c w) ≡ w
  coded-stays w = elim (cases_Bool (is_coded c w)) [
    | inl hit ↦
        let parts = coded_parts w hit in
        let low : c.base ≤ w = parts.0 in
        let is : coded_reference c w ≡ (w - c.base) / U + 1 = cond-true (is_coded c w) ((w - c.base) / U + 1) 0 hit in
        let whole : U * ((w - c.base) / U) + (w - c.base) % U ≡ w - c.base = div-add-mod (w - c.base) U in
        let none : (w - c.base) % U ≡ 0 = parts.1 in
        cond-true (is_coded c w) (c.base + U * (coded_reference c w - 1)) w hit
        ∙ ap (λ r. c.base + U * (r - 1)) is
        ∙ (let less : (w - c.base) / U + 1 - 1 ≡ (w - c.base) / U = omega arith in ap (λ r. c.base + U * r) less)
        ∙ omega arith
    | inr miss ↦ cond-false (is_coded c w) (c.base + U * (coded_reference c w - 1)) w miss
  ]

  pub coded-fits : (words : ℕ) → IsCoding c words → (w r : ℕ) → w < 2 ^ 64 → r ≤ words → coded_redirected c w r < 2 ^ 64
  coded-fits words ok w r fits high = elim (cases_Bool (is_coded c w)) [
    | inl hit ↦
        let all = ok.all in
        let room : c.base + U * words ≤ 2 ^ 64 = ok.room in
        let some : (w - c.base) / U < c.count = (coded_parts w hit).2 in
        let less : r - 1 + 1 ≤ words = omega arith in
        let most : U * (r - 1 + 1) ≤ U * words = mul-le-mul_left U less in
        let one : U * (r - 1 + 1) ≡ U * (r - 1) + U = mul-add U (r - 1) 1 ∙ ap (λ n. U * (r - 1) + n) (mul-one U) in
        let step : 0 < U = pow_pos c.unit in
        let e : coded_redirected c w r ≡ c.base + U * (r - 1) = cond-true (is_coded c w) (c.base + U * (r - 1)) w hit in
        omega arith
    | inr miss ↦
        let e : coded_redirected c w r ≡ w = cond-false (is_coded c w) (c.base + U * (r - 1)) w miss in
        omega arith
  ]

  -- the size of a filler reads back
  pub coded-filler_size : (words : ℕ) → IsCoding c words → (n : ℕ) → 0 < n → n ≤ 2147483648 → coded_size c (coded_filler c n) ≡ n
  coded-filler_size words ok n some few =
      let x : ℕ = 2 ^ c.size_unit * n - c.filler_less in
      let least = ok.least in
      let most = ok.most in
      let enough = ok.some in
      let room : 2 ^ c.size_unit * 2147483648 < 2 ^ c.size_bits = ok.large in
      let up : 2 ^ c.size_unit * n ≤ 2 ^ c.size_unit * 2147483648 = mul-le-mul_left (2 ^ c.size_unit) few in
      let down : 2 ^ c.size_unit * 1 ≤ 2 ^ c.size_unit * n = mul-le-mul_left (2 ^ c.size_unit) (let l : 1 ≤ n = omega arith in l) in
      let one : 2 ^ c.size_unit * 1 ≡ 2 ^ c.size_unit = mul-one (2 ^ c.size_unit) in
      let below : x < 2 ^ c.size_bits = omega arith in
      let shifted : coded_filler c n / 2 ^ c.size_shift ≡ c.filler_tag / 2 ^ c.size_shift + x = add-mul-div_left c.filler_tag x (pow_pos c.size_shift) in
      let field : (c.filler_tag / 2 ^ c.size_shift + x) % 2 ^ c.size_bits ≡ x = field_back (c.filler_tag / 2 ^ c.size_shift) x (2 ^ c.size_bits) ok.apart below in
      let more : c.size_more - c.filler_less < 2 ^ c.size_unit = omega arith in
      let whole : x + c.size_more ≡ 2 ^ c.size_unit * n + (c.size_more - c.filler_less) = omega arith in
      ap (λ h. (h % 2 ^ c.size_bits + c.size_more) / 2 ^ c.size_unit) shifted
      ∙ ap (λ h. (h + c.size_more) / 2 ^ c.size_unit) field
      ∙ ap (λ h. h / 2 ^ c.size_unit) whole
      ∙ mul-add-div (pow_pos c.size_unit) n (c.size_more - c.filler_less)
      ∙ ap (λ q. n + q) (div-eq_of_lt more) ∙ omega arith

pub coded-IsLayout : (c : Coding) (words : ℕ) → IsCoding c words → IsLayout (Coded c) words
coded-IsLayout c words ok = record {
  leads = coded-leads c words ok;
  stays = coded-stays c;
  fits = coded-fits c words ok;
  filler-size = λ n some within few. coded-filler_size c words ok n some few;
}

own_size : (n : ℕ) → n ≤ 2147483648 → size_of (filler_header n) ≡ n
own_size n few = omega arith

pub own-IsLayout : (words : ℕ) → words < 2 ^ 64 → IsLayout Own words
own-IsLayout words few = record {
  leads = λ w r _ _ _. refl;
  stays = λ w. refl;
  fits = λ w r _ within. omega arith;
  filler-size = λ n _ _ l. own_size n l;
}

pub ocaml-IsCoding : (start words : ℕ) → start + 8 + 8 * words ≤ 2 ^ 64 → IsCoding (ocaml start words) words
ocaml-IsCoding start words room = record {
  all = refl;
  room = room;
  apart = refl;
  least = omega arith;
  most = omega arith;
  some = omega arith;
  large = omega arith;
}

pub scheme48-IsCoding : (start words : ℕ) → start + 11 + 8 * words ≤ 2 ^ 64 → IsCoding (scheme48 start words) words
scheme48-IsCoding start words room = record {
  all = refl;
  room = room;
  apart = refl;
  least = omega arith;
  most = omega arith;
  some = omega arith;
  large = omega arith;
}
