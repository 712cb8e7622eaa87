-- A layout has no fault exactly if its numbers fit headers and each other.
use Rattle.std.proofs.Common.{◌≡◌, ℕ, ◌+◌, ◌*◌, ◌/◌, ◌%◌, ◌^◌, ◌≤◌, ◌<◌, inl, inr, Bool, true, false, not, ◌&&◌, sym, ◌∙◌, ap, arith, ltb, leb, refl, get_or, Option, None, Some}
use Rattle.std.specs.Prelude.{if◌then◌else◌}
use Rattle.std.proofs.lemmas.Bool.{cases_lt, cond-false, and_parts, and_from, or_parts, or_from, lt-ltb, le-leb, ltb-true, leb-true, ltb-false, leb-false, lt-leb, le-ltb, eq-eqb, eqb-true}
use Rattle.std.proofs.lemmas.List.Sums.{AllPass-from_list_all, list_all-from_AllPass}
use Rattle.std.proofs.lemmas.Nat.{pow_below, pow-add}
use Rattle.std.proofs.Math.Nat.{pow-le-pow_right}
use Rattle.object_heap.specs.Layout.{IsCoding}
use Rattle.object_coding.specs.declared.object_layout.ObjectLayout.{ObjectLayout}
use Rattle.object_coding.specs.ObjectLayout.{coding_of, IsField, FitsHeaders}
use Rattle.object_coding.specs.LayoutFault.{is_field, is_narrow, knows_modes, reaches, clears_size, reads_back, layout_fault}

-- of a test that comes before others and finds nothing
passed : {A : Type 0} (found : Bool) (fault : A) (others : Option A) → (if found then Some fault else others) ≡ None → (found ≡ false) × (others ≡ None)
passed true fault others none = let no : ⊥ = cc in absurd no
passed false fault others none = (refl, none)

pass : {A : Type 0} (found : Bool) (fault : A) (others : Option A) → found ≡ false → others ≡ None → (if found then Some fault else others) ≡ None
pass found fault others not_found none = cond-false found (Some fault) others not_found ∙ none

fits_by_test : (found : Bool) → not found ≡ false → found ≡ true
fits_by_test true is = refl
fits_by_test false is = sym is

field_by_test : (shift bits : ℕ) → is_field shift bits ≡ true → IsField shift bits
field_by_test shift bits is =
    let outer = and_parts (ltb shift 64) (ltb bits 64 && leb (shift + bits) 64) is in
    let inner = and_parts (ltb bits 64) (leb (shift + bits) 64) outer.1 in
    record { shift_low = ltb-true shift 64 outer.0; bits_low = ltb-true bits 64 inner.0; inside = leb-true (shift + bits) 64 inner.1 }

test_of_field : (shift bits : ℕ) → IsField shift bits → is_field shift bits ≡ true
test_of_field shift bits is =
    and_from (ltb shift 64) (ltb bits 64 && leb (shift + bits) 64) (lt-ltb shift 64 is.shift_low)
    (and_from (ltb bits 64) (leb (shift + bits) 64) (lt-ltb bits 64 is.bits_low) (le-leb (shift + bits) 64 is.inside))

-- the test of sizes, by the numbers of bits
pub narrow_by_bits : (bits unit : ℕ) → leb bits (unit + 31) ≡ leb (2 ^ bits) (2 ^ unit * 2147483648)
narrow_by_bits bits unit = elim (cases_lt (unit + 31) bits) [
  | inl wide ↦
      let less : 2 ^ (unit + 31) < 2 ^ bits = pow_below (unit + 31) bits wide in
      let is : 2 ^ (unit + 31) ≡ 2 ^ unit * 2147483648 = pow-add 2 unit 31 in
      lt-leb bits (unit + 31) wide ∙ sym (lt-leb (2 ^ bits) (2 ^ unit * 2147483648) (omega arith))
  | inr narrow ↦
      let most : 2 ^ bits ≤ 2 ^ (unit + 31) = pow-le-pow_right {n = 2} (let l : 0 < 2 = omega arith in l) narrow in
      let is : 2 ^ (unit + 31) ≡ 2 ^ unit * 2147483648 = pow-add 2 unit 31 in
      le-leb bits (unit + 31) narrow ∙ sym (le-leb (2 ^ bits) (2 ^ unit * 2147483648) (omega arith))
]

-- each test of a layout without faults
pub record Tests (layout : ObjectLayout) (words : ℕ) : Type 0 where
  pub of_size : is_field layout.size_shift layout.size_bits ≡ true
  pub wide : is_narrow layout ≡ false
  pub of_type : is_field layout.type_shift layout.type_bits ≡ true
  pub few_types : ltb 8 layout.type_bits ≡ false
  pub of_first : is_field layout.first_shift layout.first_bits ≡ true
  pub modes : knows_modes layout ≡ true
  pub reached : reaches layout words ≡ true
  pub clear : clears_size layout ≡ true
  pub back : reads_back layout ≡ true

pub tests_of : (layout : ObjectLayout) (words : ℕ) → layout_fault layout words ≡ None → Tests layout words
tests_of layout words none =
    let size = passed _ _ _ none in
    let narrow = passed _ _ _ size.1 in
    let type = passed _ _ _ narrow.1 in
    let first = passed _ _ _ type.1 in
    let mode = passed _ _ _ first.1 in
    let addresses = passed _ _ _ mode.1 in
    let tag = passed _ _ _ addresses.1 in
    let back = passed _ _ _ tag.1 in
    let types = or_parts (not (is_field layout.type_shift layout.type_bits)) (ltb 8 layout.type_bits) type.0 in
    record {
      of_size = fits_by_test (is_field layout.size_shift layout.size_bits) size.0;
      wide = narrow.0;
      of_type = fits_by_test (is_field layout.type_shift layout.type_bits) types.0;
      few_types = types.1;
      of_first = fits_by_test (is_field layout.first_shift layout.first_bits) first.0;
      modes = fits_by_test (knows_modes layout) mode.0;
      reached = fits_by_test (reaches layout words) addresses.0;
      clear = fits_by_test (clears_size layout) tag.0;
      back = fits_by_test (reads_back layout) back.0;
    }

pub faultless_by : (layout : ObjectLayout) (words : ℕ) → Tests layout words → layout_fault layout words ≡ None
faultless_by layout words tests =
    pass _ _ _ (ap not tests.of_size)
    (pass _ _ _ tests.wide
    (pass _ _ _ (or_from (not (is_field layout.type_shift layout.type_bits)) (ltb 8 layout.type_bits) (ap not tests.of_type) tests.few_types)
    (pass _ _ _ (ap not tests.of_first)
    (pass _ _ _ (ap not tests.modes)
    (pass _ _ _ (ap not tests.reached)
    (pass _ _ _ (ap not tests.clear)
    (pass _ _ _ (ap not tests.back) refl)))))))

module _ (layout : ObjectLayout) (words : ℕ) (tests : Tests layout words) where
  pub headers : FitsHeaders layout
  unfolding knows_modes reaches
  headers = record {
    of_size = field_by_test layout.size_shift layout.size_bits tests.of_size;
    of_type = field_by_test layout.type_shift layout.type_bits tests.of_type;
    few_types = ltb-false 8 layout.type_bits tests.few_types;
    of_first = field_by_test layout.first_shift layout.first_bits tests.of_first;
    modes = λ i d l. leb-true (get_or layout.modes i d) 2 (AllPass-from_list_all (λ mode. leb mode 2) layout.modes tests.modes i d l);
    unit_low = ltb-true layout.unit 64 (and_parts (ltb layout.unit 64) (leb (layout.base + 2 ^ layout.unit * words) (2 ^ 64)) tests.reached).0;
  }

  pub lawful : IsCoding (coding_of layout words) words
  unfolding is_narrow reaches clears_size reads_back
  lawful =
      let word_units : ℕ = 2 ^ layout.size_unit in
      let back = and_parts (leb layout.filler_less layout.size_more) (ltb layout.size_more (layout.filler_less + word_units) && leb layout.filler_less word_units) tests.back in
      let limits = and_parts (ltb layout.size_more (layout.filler_less + word_units)) (leb layout.filler_less word_units) back.1 in
      record {
        all = refl;
        room = leb-true (layout.base + 2 ^ layout.unit * words) (2 ^ 64) (and_parts (ltb layout.unit 64) (leb (layout.base + 2 ^ layout.unit * words) (2 ^ 64)) tests.reached).1;
        apart = eqb-true (layout.filler_tag / 2 ^ layout.size_shift % 2 ^ layout.size_bits) 0 tests.clear;
        least = leb-true layout.filler_less layout.size_more back.0;
        most = ltb-true layout.size_more (layout.filler_less + word_units) limits.0;
        some = leb-true layout.filler_less word_units limits.1;
        large = leb-false (2 ^ layout.size_bits) (word_units * 2147483648) tests.wide;
      }

  pub unit_of_size_low : layout.size_unit < 32
  unfolding is_narrow
  unit_of_size_low =
      let by_bits = leb-false layout.size_bits (layout.size_unit + 31) (narrow_by_bits layout.size_bits layout.size_unit ∙ tests.wide) in
      let low = headers.of_size.bits_low in
      omega arith

-- the tests, of numbers that fit
module _ (layout : ObjectLayout) (words : ℕ) (fits : FitsHeaders layout) (coding : IsCoding (coding_of layout words) words) where
  pub tested : Tests layout words
  unfolding is_narrow knows_modes reaches clears_size reads_back
  tested = record {
    of_size = test_of_field layout.size_shift layout.size_bits fits.of_size;
    wide = lt-leb (2 ^ layout.size_bits) (2 ^ layout.size_unit * 2147483648) coding.large;
    of_type = test_of_field layout.type_shift layout.type_bits fits.of_type;
    few_types = le-ltb 8 layout.type_bits fits.few_types;
    of_first = test_of_field layout.first_shift layout.first_bits fits.of_first;
    modes = list_all-from_AllPass (λ mode. leb mode 2) layout.modes (λ i d l. le-leb (get_or layout.modes i d) 2 (fits.modes i d l));
    reached = and_from (ltb layout.unit 64) (leb (layout.base + 2 ^ layout.unit * words) (2 ^ 64)) (lt-ltb layout.unit 64 fits.unit_low) (le-leb (layout.base + 2 ^ layout.unit * words) (2 ^ 64) coding.room);
    clear = eq-eqb (layout.filler_tag / 2 ^ layout.size_shift % 2 ^ layout.size_bits) 0 coding.apart;
    back = and_from (leb layout.filler_less layout.size_more) (ltb layout.size_more (layout.filler_less + 2 ^ layout.size_unit) && leb layout.filler_less (2 ^ layout.size_unit)) (le-leb layout.filler_less layout.size_more coding.least)
        (and_from (ltb layout.size_more (layout.filler_less + 2 ^ layout.size_unit)) (leb layout.filler_less (2 ^ layout.size_unit)) (lt-ltb layout.size_more (layout.filler_less + 2 ^ layout.size_unit) coding.most) (le-leb layout.filler_less (2 ^ layout.size_unit) coding.some));
  }
