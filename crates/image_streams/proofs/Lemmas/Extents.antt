-- The known bytes of a store, from a place on.
use Rattle.std.proofs.Common.{◌≡◌, ℕ, ◌+◌, ◌^◌, ◌<◌, List, [], ◌∷◌, ◌++◌, length, length-append, drop, refl, sym, ◌∙◌, ap, subst, arith, Option, Some, None}
use Rattle.std.proofs.lemmas.List.{drop-drop, append-nil, append_assoc}
use Rattle.std.proofs.lemmas.List.Elements.{All-append}
use Rattle.std.proofs.lemmas.List.Concat.{flat_map-append}
use Rattle.std.proofs.lemmas.List.Folds.{concat-append}
use Rattle.std.specs.Prelude.{All}
use Rattle.std.specs.List.{concat}
use Rattle.std.specs.Int.{w64, to_le_bytes}
use Rattle.std.specs.Io.KnownBytes.{Consumes}
use Rattle.image_streams.specs.Numbers.{numbers}
use Rattle.image_streams.specs.Extents.{AreTwoParts, IsBodyOf, from_place, extent_end}
use Rattle.image_streams.specs.declared.body.Body.{Body}
use Rattle.image_streams.specs.declared.side_by_side.Extent.{Extent}
use Rattle.image_streams.proofs.Lemmas.Known.{consumes_more}

drop_front : (xs ys : List ℕ) → drop (length xs) (xs ++ ys) ≡ ys
drop_front [] ys = refl
drop_front (x ∷ xs) ys = drop_front xs ys

pub no_items : (xs : List ℕ) → length xs ≡ 0 → xs ≡ []
no_items [] e = refl
no_items (x ∷ xs) e = let no : ⊥ = omega arith in absurd no

-- regions of this size
abbrev AreBlocks : ℕ → List (List ℕ) → Type 0
AreBlocks log blocks = All (λ block. length block ≡ 2 ^ log) blocks

-- what was taken in order lies in a row
pub consumes_at : (known : Option (List ℕ)) (at n : ℕ) (after : Option (List ℕ)) (xs : List ℕ) → length xs ≡ n → Consumes (from_place known at) after xs → Consumes (from_place known at) (from_place known (at + n)) xs
consumes_at None at n after xs e h = tt
consumes_at (Some bytes) at n None xs e h = absurd h
consumes_at (Some bytes) at n (Some ys) xs e h =
    let rest : drop (at + n) bytes ≡ ys = sym (drop-drop n at bytes) ∙ ap (drop n) h ∙ ap (λ k. drop k (xs ++ ys)) (sym e) ∙ drop_front xs ys in
    h ∙ ap (λ l. xs ++ l) (sym rest)

-- what lies in both parts, of which the first has no numbers, is what lies in the whole
pub joined : (known : Option (List ℕ)) (extent low high : Extent) (first second whole : Body) → AreTwoParts extent low high → IsBodyOf known low first → IsBodyOf known high second → whole.regions.items ≡ first.regions.items ++ second.regions.items → whole.tail.items ≡ second.tail.items → IsBodyOf known extent whole
joined known extent low high first second whole halves a b regions tail =
    let log = extent.size.region_log in
    let fronts = first.regions.items in
    let others = second.regions.items in
    let same_log : (l : ℕ) → l ≡ log → (blocks : List (List ℕ)) → AreBlocks l blocks → AreBlocks log blocks = λ l e blocks h. subst (λ l. AreBlocks l blocks) e h in
    let words : concat whole.regions.items ≡ concat fronts ++ concat others = ap concat regions ∙ concat-append fronts others in
    let none : first.tail.items ≡ [] = no_items first.tail.items (a.tail ∙ halves.none) in
    let longer = length-append fronts others in
    let grown : length whole.regions.items ≡ length (fronts ++ others) = ap length regions in
    let counted = halves.count in
    let fewer = a.count in
    let more = b.count in
    let first_joins : numbers (concat fronts) ++ numbers first.tail.items ≡ numbers (concat fronts) = ap (λ xs. numbers (concat fronts) ++ numbers xs) none ∙ append-nil (numbers (concat fronts)) in
    let joins : numbers (concat fronts) ++ (numbers (concat others) ++ numbers second.tail.items) ≡ numbers (concat whole.regions.items) ++ numbers whole.tail.items =
    sym (append_assoc (numbers (concat fronts)) (numbers (concat others)) (numbers second.tail.items))
    ∙ ap (λ xs. xs ++ numbers second.tail.items) (sym (flat_map-append (to_le_bytes w64) (concat fronts) (concat others)) ∙ ap numbers (sym words))
    ∙ ap (λ xs. numbers (concat whole.regions.items) ++ numbers xs) (sym tail) in
    let start : from_place known low.at ≡ from_place known extent.at = ap (from_place known) halves.at in
    let middle : from_place known high.at ≡ from_place known (extent_end low) = ap (from_place known) halves.behind in
    let end : from_place known (extent_end high) ≡ from_place known (extent_end extent) = ap (from_place known) halves.end in
    let second_numbers = numbers (concat others) ++ numbers second.tail.items in
    let second_bytes : Consumes (from_place known (extent_end low)) (from_place known (extent_end extent)) second_numbers = subst (λ to. Consumes (from_place known (extent_end low)) to second_numbers) end (subst (λ from. Consumes from (from_place known (extent_end high)) second_numbers) middle b.bytes) in
    let first_bytes : Consumes (from_place known extent.at) (from_place known (extent_end low)) (numbers (concat fronts)) = subst (λ xs. Consumes (from_place known extent.at) (from_place known (extent_end low)) xs) first_joins (subst (λ from. Consumes from (from_place known (extent_end low)) (numbers (concat fronts) ++ numbers first.tail.items)) start a.bytes) in
    record {
      regions = subst (AreBlocks log) (sym regions) (All-append (λ block. length block ≡ 2 ^ log) fronts others (same_log low.size.region_log halves.low_log fronts a.regions) (same_log high.size.region_log halves.high_log others b.regions));
      count = omega arith;
      fit = subst (λ ws. All (λ w. w < 2 ^ 64) ws) (sym words) (All-append (λ w. w < 2 ^ 64) (concat fronts) (concat others) a.fit b.fit);
      tail = ap length tail ∙ b.tail ∙ halves.numbers;
      tail_fit = subst (λ ns. All (λ n. n < 2 ^ 64) ns) (sym tail) b.tail_fit;
      bytes = subst (λ bytes. Consumes (from_place known extent.at) (from_place known (extent_end extent)) bytes) joins (consumes_more (from_place known extent.at) (from_place known (extent_end low)) (from_place known (extent_end extent)) (numbers (concat fronts)) second_numbers first_bytes second_bytes);
    }
