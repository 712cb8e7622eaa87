-- The items of an image, compared in shares with those of another's compaction.
use Rattle.std.specs.Prelude.{◌≡◌, ℕ, ◌+◌, ◌*◌, ◌<◌, ◌≤◌, List, Option, Some, None, MatchOption, length, min, slice_index_or}
use Rattle.object_heap.specs.HeapImage.{HeapImage}
use Rattle.summary.specs.LiveObjects.{object_count, object_at}
use Rattle.summary.specs.NewAddresses.{new_address}
use Rattle.summary.specs.Compaction.{redirected}
use Rattle.verification.specs.Compared.{IsObjectCompacted}
use Rattle.verification.specs.Verdict.{root_count, root_at}
use Rattle.verification.specs.declared.items.Items.{Items}
use Rattle.verification.specs.declared.items.Items.TheVariants.{Objects, Live, Roots}

abbrev pub item_count : Items → HeapImage → ℕ
item_count Objects image = object_count image
item_count Live image = object_count image
item_count Roots image = root_count image

-- the i-th item of `after` is that of the compaction of `before`
abbrev pub IsItemAlike : Items → HeapImage → HeapImage → ℕ → Type 0
IsItemAlike Objects before after i = IsObjectCompacted before after i
IsItemAlike Live before after i = object_at after i ≡ new_address before (object_at before i)
IsItemAlike Roots before after i = root_at after i ≡ redirected before (root_at before i)

module _ (A : ℕ → Type 0) where
  -- A holds from index `from` up to `to`
  abbrev pub HoldsFrom : ℕ → ℕ → Type 0
  HoldsFrom from to = (i : ℕ) → from ≤ i → i < to → A i

  -- k is the first of these indices at which A fails
  pub record FailsFirst (from to k : ℕ) : Type 0 where
    pub behind : from ≤ k
    pub inside : k < to
    pub fails : ¬ (A k)
    pub before : HoldsFrom from k

  -- the first of these indices at which A fails, or None if there is none
  abbrev pub IsFirstIn : ℕ → ℕ → Option ℕ → Type 0
  IsFirstIn from to found = MatchOption found (HoldsFrom from to) (FailsFirst from to)

-- the first of the items of the k-th share that differs, where a share has `share` items
abbrev pub IsFirstOfShare : Items → HeapImage → HeapImage → ℕ → ℕ → Option ℕ → Type 0
IsFirstOfShare items before after share k = IsFirstIn (IsItemAlike items before after)
    (min (share * k) (item_count items before)) (min (share * k + share) (item_count items before))

-- that of each share
abbrev pub AreSearched : Items → HeapImage → HeapImage → ℕ → List (Option ℕ) → Type 0
AreSearched items before after share found = (k : ℕ) → k < length found → IsFirstOfShare items before after share k (slice_index_or found k None)

abbrev pub AreNone : List (Option ℕ) → ℕ → Type 0
AreNone found n = (j : ℕ) → j < n → slice_index_or found j None ≡ None

-- the first index that was found, or None if there is none
abbrev pub IsFirstFound : List (Option ℕ) → Option ℕ → Type 0
IsFirstFound found first = MatchOption first (AreNone found (length found))
    (λ i. (k : ℕ) × (k < length found) × (slice_index_or found k None ≡ Some i) × AreNone found k)
