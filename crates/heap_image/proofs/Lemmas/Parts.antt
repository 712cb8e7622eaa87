-- What an image and its regions have to do with one another.
use Rattle.std.proofs.Common.{◌≡◌, ℕ, ◌-◌, ◌*◌, ◌/◌, ◌%◌, ◌^◌, ◌≤◌, ◌<◌, List, length, sym, ◌∙◌, ap, arith, bit_and, Option}
use Rattle.std.proofs.lemmas.Nat.{and_mask, pow_below}
use Rattle.std.proofs.Math.Nat.{mod-eq_of_lt, pow-le-pow_right}
use Rattle.std.specs.List.{concat}
use Rattle.object_heap.specs.HeapImage.{HeapImage, AreValidParts, versioned_image_of, heap_words}
use Rattle.object_heap.specs.declared.version.Version.{Version}

module _ (version : Version) (log allowance : ℕ) (blocks : List (List ℕ)) (live : List ℕ) (roots : Option (List ℕ)) (parts : AreValidParts version log allowance blocks live roots) where
  abbrev image : HeapImage
  image = versioned_image_of version log allowance blocks live roots

  pub len_fits : length (concat blocks) ≡ length blocks * 2 ^ log → length blocks * 2 ^ log % 18446744073709551616 ≡ heap_words image
  len_fits words =
      let few = parts.valid.limits.few_words in
      let fits : length blocks * 2 ^ log < 18446744073709551616 = omega arith in
      mod-eq_of_lt fits ∙ sym words

  pub few_blocks : length (concat blocks) / 2 ^ log ≡ length blocks → length blocks ≤ 1048576
  few_blocks is = let few = parts.valid.limits.few_regions in omega arith

-- the words of a region, as they are shifted
pub region_few : (log : ℕ) → log ≤ 20 → 1 * 2 ^ log % 18446744073709551616 ≤ 1048576
region_few log high =
    let few : 2 ^ log ≤ 2 ^ 20 = pow-le-pow_right {n = 2} (omega arith) high in
    let same : 1 * 2 ^ log % 18446744073709551616 ≡ 1 * 2 ^ log = mod-eq_of_lt (omega arith) in
    omega arith

-- the mask of a place in a region
pub place_by_mask : (log a : ℕ) → log ≤ 20 → bit_and a (1 * 2 ^ log % 18446744073709551616 - 1) ≡ a % 2 ^ log
place_by_mask log a high =
    let below : 2 ^ log < 2 ^ 21 = pow_below log 21 (omega arith) in
    let one : 1 * 2 ^ log ≡ 2 ^ log = omega arith in
    let fits : 1 * 2 ^ log < 18446744073709551616 = omega arith in
    ap (λ n. bit_and a (n - 1)) (mod-eq_of_lt fits ∙ one) ∙ and_mask a log
