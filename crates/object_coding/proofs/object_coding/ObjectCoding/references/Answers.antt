use Rattle.std.proofs.Common.{◌≡◌, ◌-◌, ◌/◌, ◌%◌, ◌^◌, ℕ, eqb, sym, ◌∙◌, ap, arith}
use Rattle.std.specs.Prelude.{if◌then◌else◌}
use Rattle.std.proofs.lemmas.Bool.{cond-false, ne_eqb}
use Rattle.object_heap.specs.Layout.{Coding, coded_mode, coded_size, coded_references}
use Rattle.object_coding.proofs.Lemmas.Fields.{masked}
use Rattle.object_coding.proofs.object_coding.ObjectCoding.references.Goals as goal

-- the first ones, where it is neither none nor all
first_ones : (k : Coding) (header : ℕ) → (coded_mode k header ≡ 0 → ⊥) → (coded_mode k header ≡ 1 → ⊥) → coded_references k header ≡ header / 2 ^ k.first_shift % 2 ^ k.first_bits
first_ones k header some not_all =
    cond-false (eqb (coded_mode k header) 0) 0 (if eqb (coded_mode k header) 1 then coded_size k header - 1 else header / 2 ^ k.first_shift % 2 ^ k.first_bits) (ne_eqb (coded_mode k header) 0 some)
    ∙ cond-false (eqb (coded_mode k header) 1) (coded_size k header - 1) (header / 2 ^ k.first_shift % 2 ^ k.first_bits) (ne_eqb (coded_mode k header) 1 not_all)

pub returns-in_default : goal.returns-in_default
returns-in_default c =
    let layout = c.self.inside.layout in
    let mode = c.mode.ensures in
    masked (c.args.header / 2 ^ layout.first_shift) layout.first_bits c.self.inside.first_mask c.self.invariant.of_first
    ∙ ap (λ (k : Coding). c.args.header / 2 ^ k.first_shift % 2 ^ k.first_bits) c.self.view_is
    ∙ sym (first_ones c.args.self.now c.args.header (λ z. let no : ⊥ = omega arith in no) (λ z. let no : ⊥ = omega arith in no))
