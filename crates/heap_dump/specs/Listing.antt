-- The objects of an imported image, one by one.
use Rattle.std.specs.Prelude.{◌≡◌, ◌≢◌, ◌⊎◌, ℕ, ◌+◌, ◌<◌, ◌≤◌, List, All, IfSome, map, filter, take, length, slice_get, slice_index}
use Rattle.std.specs.List.{AllPairs}
use Rattle.std.specs.List.Sorted.{IsStrictlyIncreasing}
use Rattle.object_heap.specs.HeapImage.{HeapImage, heap_words, size_at, word_at}
use Rattle.heap_dump.specs.declared.listing.ListedObject.{ListedObject}
use Rattle.heap_dump.specs.declared.listing.object_labels.Label.{Label}

-- the address after the last word of an object
abbrev pub end_of_listed : ListedObject → ℕ
end_of_listed object = object.address + object.words

-- the addresses of the live ones
abbrev pub live_addresses : List ListedObject → List ℕ
live_addresses objects = map (λ object. object.address) (filter (λ object. object.is_live) objects)

-- the live address with this index is a
pub record IsNextLive (image : HeapImage) (index a : ℕ) : Type 0 where
  pub there : index < length image.live
  pub is : slice_index image.live index ≡ a

-- an object with so many words is at this address
pub record IsObjectAt (image : HeapImage) (a words : ℕ) : Type 0 where
  pub header : word_at image a ≢ 0
  pub size : words ≡ size_at image a
  pub some : 0 < words
  pub inside : a + words ≤ heap_words image

-- the address a is that of no word of these objects
abbrev pub IsOutside : ℕ → List ListedObject → Type 0
IsOutside a objects = All (λ object. (a < object.address) ⊎ (end_of_listed object ≤ a)) objects

-- These objects have headers other than 0 and the sizes in them, ascend without overlap, and end at this address or before. Each
-- word before it that is outside them is 0. Those of them that are live are the first of the live list, in its order.
pub record AreObjectsBefore (image : HeapImage) (count end : ℕ) (objects : List ListedObject) : Type 0 where
  pub headers : All (λ object. word_at image object.address ≢ 0) objects
  pub sizes : All (λ object. object.words ≡ size_at image object.address) objects
  pub apart : AllPairs (λ a b. end_of_listed a ≤ b.address) objects
  pub inside : All (λ object. end_of_listed object ≤ end) objects
  pub rest : (a : ℕ) → a < end → IsOutside a objects → word_at image a ≡ 0
  pub live : live_addresses objects ≡ take count image.live

-- These are the objects of an image, by ascending addresses without overlap, each with a header other than 0 and the size in it.
-- No other object is there: each word outside them is 0. An object is live exactly if it is in the live list, and each of that
-- list is there once.
pub record AreObjectsOf (image : HeapImage) (objects : List ListedObject) : Type 0 where
  pub headers : All (λ object. word_at image object.address ≢ 0) objects
  pub sizes : All (λ object. object.words ≡ size_at image object.address) objects
  pub apart : AllPairs (λ a b. end_of_listed a ≤ b.address) objects
  pub inside : All (λ object. end_of_listed object ≤ heap_words image) objects
  pub rest : (a : ℕ) → a < heap_words image → IsOutside a objects → word_at image a ≡ 0
  pub live : live_addresses objects ≡ image.live

-- what the dump says of an object beside its values
abbrev pub label_of : ListedObject → Label
label_of object = record { id = object.id; machine_words = object.machine_words; class = object.class }

-- the label with this index, if there is one, has this id
abbrev pub HasLabel : List Label → ℕ → ℕ → Type 0
HasLabel labels index id = IfSome (slice_get labels index) (λ label. label.id ≡ id)

abbrev pub labels_of : List ListedObject → List Label
labels_of objects = map label_of objects

abbrev pub ids_of : List ListedObject → List ℕ
ids_of objects = map (λ object. object.id) objects

-- these objects have the first of these labels, and ids that ascend up to this one
pub record AreLabelled (labels : List Label) (last : ℕ) (objects : List ListedObject) : Type 0 where
  pub labelled : labels_of objects ≡ take (length objects) labels
  pub ascend : IsStrictlyIncreasing (ids_of objects)
  pub highest : All (λ id. id ≤ last) (ids_of objects)

-- the image has so many objects before this address
pub record HasObjectsBefore (image : HeapImage) (live end count : ℕ) : Type 0 where
  pub objects : List ListedObject
  pub before : AreObjectsBefore image live end objects
  pub counted : length objects ≡ count

-- the image has so many objects
pub record HasObjects (image : HeapImage) (count : ℕ) : Type 0 where
  pub objects : List ListedObject
  pub listed : AreObjectsOf image objects
  pub counted : length objects ≡ count
