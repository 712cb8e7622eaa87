-- The layouts of OCaml and of Scheme 48 have no fault.
use Rattle.std.proofs.Common.{◌≡◌, ℕ, ◌+◌, ◌*◌, ◌^◌, ◌≤◌, ap, arith, true, leb, refl, List, ◌∷◌, ◌++◌, get_or, None}
use Rattle.std.specs.Prelude.{All, replicate}
use Rattle.std.specs.List.{list_all}
use Rattle.std.proofs.lemmas.Bool.{leb-true}
use Rattle.std.proofs.lemmas.List.Sums.{AllPass-from_list_all}
use Rattle.object_coding.specs.declared.object_layout.ObjectLayout.{ObjectLayout}
use Rattle.object_coding.specs.LayoutFault.{layout_fault}
use Rattle.object_coding.proofs.Lemmas.Faults.{faultless_by, tested}

-- each of these modes is known
known : (modes : List ℕ) → list_all (λ mode. leb mode 2) modes ≡ true → All (λ mode. mode ≤ 2) modes
known modes pass i d l = leb-true (get_or modes i d) 2 (AllPass-from_list_all (λ mode. leb mode 2) modes pass i d l)

abbrev pub ocaml_layout : ℕ → List ℕ → ObjectLayout
ocaml_layout start modes = record { size_shift = 10; size_bits = 54; size_unit = 0; type_shift = 0; type_bits = 8; first_shift = 0; first_bits = 0; unit = 3; size_more = 1; base = start + 8; filler_tag = 251; filler_less = 1; modes = modes }

pub ocaml_is_faultless : (start words : ℕ) (modes : List ℕ) → modes ≡ replicate 251 1 ++ replicate 5 0 → start + 8 + 8 * words ≤ 2 ^ 64 → layout_fault (ocaml_layout start modes) words ≡ None
ocaml_is_faultless start words modes are room =
    faultless_by (ocaml_layout start modes) words (tested (ocaml_layout start modes) words
    (record {
      of_size = record { shift_low = omega arith; bits_low = omega arith; inside = omega arith };
      of_type = record { shift_low = omega arith; bits_low = omega arith; inside = omega arith };
      few_types = omega arith;
      of_first = record { shift_low = omega arith; bits_low = omega arith; inside = omega arith };
      modes = known modes (ap (list_all (λ mode. leb mode 2)) are);
      unit_low = omega arith;
    })
    (record { all = refl; room = room; apart = refl; least = omega arith; most = omega arith; some = omega arith; large = omega arith }))

abbrev pub scheme48_layout : ℕ → List ℕ → ObjectLayout
scheme48_layout start modes = record { size_shift = 8; size_bits = 56; size_unit = 3; type_shift = 2; type_bits = 5; first_shift = 0; first_bits = 0; unit = 3; size_more = 15; base = start + 11; filler_tag = 70; filler_less = 8; modes = modes }

pub scheme48_is_faultless : (start words : ℕ) (modes : List ℕ) → modes ≡ replicate 13 1 ++ (0 ∷ replicate 2 1) ++ replicate 240 0 → start + 11 + 8 * words ≤ 2 ^ 64
    → layout_fault (scheme48_layout start modes) words ≡ None
scheme48_is_faultless start words modes are room =
    faultless_by (scheme48_layout start modes) words (tested (scheme48_layout start modes) words
    (record {
      of_size = record { shift_low = omega arith; bits_low = omega arith; inside = omega arith };
      of_type = record { shift_low = omega arith; bits_low = omega arith; inside = omega arith };
      few_types = omega arith;
      of_first = record { shift_low = omega arith; bits_low = omega arith; inside = omega arith };
      modes = known modes (ap (list_all (λ mode. leb mode 2)) are);
      unit_low = omega arith;
    })
    (record { all = refl; room = room; apart = refl; least = omega arith; most = omega arith; some = omega arith; large = omega arith }))
