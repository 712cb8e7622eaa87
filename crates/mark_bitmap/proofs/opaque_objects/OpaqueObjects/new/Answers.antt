use Rattle.std.proofs.Common.{rules, ◌≡◌, ℕ, ◌*◌, ◌%◌, ◌^◌, ◌<◌, ◌≤◌, List, length, get_or, sym, ◌∙◌, ap, subst, arith}
use Rattle.std.specs.Int.{div_ceil}
use Rattle.std.proofs.Math.Nat.{mod-eq_of_lt, pow-le-pow_right}
use Rattle.object_heap.specs.HeapImage.{HeapImage, IsValid}
use Rattle.object_heap.specs.Sizes.{AreSizesOf}
use Rattle.mark_bitmap.specs.OpaqueObjects.{opaque_image, AreApart}
use Rattle.mark_bitmap.proofs.Lemmas.OpaqueImage.{AreNumbers, settings_none, valid, size_here}
use Rattle.mark_bitmap.proofs.opaque_objects.OpaqueObjects.new.Goals as goal
use Rattle.mark_bitmap.proofs.opaque_objects.OpaqueObjects.new.Goals.{After-div_ceil-regions}

module _ (c : After-div_ceil-regions) where
  abbrev log : ℕ
  log = c.args.heap.region_log

  abbrev live : List ℕ
  live = c.args.live.now

  abbrev sizes : List ℕ
  sizes = c.args.sizes.now

  numbers : AreNumbers log c.args.heap.words (length live)
  numbers = settings_none log c.args.heap.words (length live) (sym c.settings_fault.ensures ∙ c.in_default.is)

  apart : AreApart c.args.heap.words live sizes
  apart = c.in_default-first_object_fault.ensures.none

  count : c.div_ceil-regions.result ≡ div_ceil c.args.heap.words (2 ^ log)
  count =
      let few : 2 ^ log ≤ 2 ^ 20 = pow-le-pow_right {n = 2} (omega arith) numbers.log_high in
      let one : 1 * 2 ^ log ≡ 2 ^ log = omega arith in
      let shifted : 1 * 2 ^ log % 18446744073709551616 ≡ 2 ^ log = mod-eq_of_lt (omega arith) ∙ one in
      c.div_ceil-regions.ensures ∙ ap (div_ceil c.args.heap.words) shifted

  -- the number of regions is right
  image_is : opaque_image log c.args.heap.allowance c.div_ceil-regions.result live sizes
      ≡ opaque_image log c.args.heap.allowance (div_ceil c.args.heap.words (2 ^ log)) live sizes
  image_is = ap (λ n. opaque_image log c.args.heap.allowance n live sizes) count

  small : (i : ℕ) → get_or sizes i 0 < 4294967296
  small i = search rules

  fits : c.args.heap.allowance < 18446744073709551616
  fits = search rules

  is_valid : IsValid (opaque_image log c.args.heap.allowance (div_ceil c.args.heap.words (2 ^ log)) live sizes)
  is_valid = valid log c.args.heap.allowance c.args.heap.words live sizes numbers.log_low numbers.log_high numbers.some numbers.few numbers.regions numbers.objects
      fits c.requires.same apart small c.layouts_are_lawful.ensures.own c.live_objects_are_reached.ensures

  is_sized : AreSizesOf (opaque_image log c.args.heap.allowance (div_ceil c.args.heap.words (2 ^ log)) live sizes) live sizes
  is_sized = λ i l. sym (size_here log c.args.heap.allowance c.args.heap.words live sizes numbers.log_low numbers.log_high numbers.some numbers.few numbers.regions numbers.objects
      fits c.requires.same apart small c.layouts_are_lawful.ensures.own c.live_objects_are_reached.ensures i l)

pub invariant_of-result : goal.invariant_of-result
invariant_of-result c = record {
  valid = subst IsValid (sym (image_is c)) (is_valid c);
  count = c.requires.same;
  sized = subst (λ (i : HeapImage). AreSizesOf i c.args.live.now c.args.sizes.now) (sym (image_is c)) (is_sized c);
}

pub returns-clause-objects : goal.returns-clause-objects
returns-clause-objects c = image_is c
