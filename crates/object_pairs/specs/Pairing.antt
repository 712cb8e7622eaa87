-- Pairs of objects before and after a collection.
use Rattle.std.specs.Prelude.{◌≡◌, ℕ, ◌+◌, true, List, length, slice_index, slice_index_or}
use Rattle.object_pairs.specs.Graph.{is_alike}
use Rattle.object_pairs.specs.declared.graph.Object.{Object}
use Rattle.object_pairs.specs.declared.pairing.Pairing.{Pairing}

-- what is at an index leads to an index, counted from 1, and that leads back
abbrev pub LeadsBack : List ℕ → List ℕ → Type 0
LeadsBack to from = (i j : ℕ) → slice_index to i ≡ j + 1 → slice_index from j ≡ i + 1

-- partners are of one class and size
abbrev pub AreAlike : List Object → List Object → List ℕ → Type 0
AreAlike before after partners =
    (i j : ℕ) (d : Object) → slice_index partners i ≡ j + 1 → is_alike (slice_index_or before i d) (slice_index_or after j d) ≡ true

-- `partners` has for each object before the number of its partner after, counted from 1, or 0 if it has none; `sources` has the same for
-- each object after. Both are the same pairs, so no object has two partners.
pub record IsPairing (before after : List Object) (pairing : Pairing) : Type 0 where
  pub length_before : length pairing.partners.items ≡ length before
  pub length_after : length pairing.sources.items ≡ length after
  pub forth : LeadsBack pairing.partners.items pairing.sources.items
  pub back : LeadsBack pairing.sources.items pairing.partners.items
  pub alike : AreAlike before after pairing.partners.items
