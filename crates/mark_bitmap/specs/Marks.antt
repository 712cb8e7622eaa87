-- The marks of an image.
use Rattle.std.specs.Prelude.{◌≡◌, ℕ, ◌+◌, ◌*◌, ◌/◌, ◌<◌, ◌≤◌, ◌==◌, ◌&&◌, nat_lt, Bool, IsTrue, List, All, length, slice_index}
use Rattle.std.specs.List.{list_any}
use Rattle.object_heap.specs.HeapImage.{HeapImage, IsValid, heap_words, end_of, is_word_of, is_live_word}
use Rattle.object_heap.specs.Bits.{has, room}

-- words of bits, of which the first has the bits of the addresses from 64 * start on
abbrev pub AreBitsFrom : (ℕ → Bool) → ℕ → List ℕ → Type 0
AreBitsFrom test start words = (k : ℕ) → k < room words → has words k ≡ test (64 * start + k)

module _ (image : HeapImage) where
  -- a live object begins at a
  abbrev pub is_begin : ℕ → Bool
  is_begin a = list_any (λ b. b == a) image.live

  -- the word at a is the last of a live object
  abbrev pub is_end : ℕ → Bool
  is_end a = list_any (λ b. end_of image b == a + 1) image.live

  -- the length of a bit array with room for each address, and for the end of the heap
  abbrev pub bit_words : ℕ
  bit_words = heap_words image / 64 + 1

  -- these bits are those of the objects at these addresses
  pub record HaveMarks (objects begins live : List ℕ) : Type 0 where
    pub begins_room : length begins ≡ bit_words
    pub live_room : length live ≡ bit_words
    pub begin_bits : (a : ℕ) → has begins a ≡ list_any (λ b. b == a) objects
    pub live_bits : (a : ℕ) → has live a ≡ list_any (λ b. is_word_of image b a) objects

  -- the bits of the words of the live objects
  pub record AreLiveBits (live : List ℕ) : Type 0 where
    pub room : length live ≡ bit_words
    pub bits : (a : ℕ) → has live a ≡ is_live_word image a

  -- what the marks of this image keep
  pub record AreMarks (begins live : List ℕ) : Type 0 where
    pub valid : IsValid image
    pub bits : HaveMarks image.live begins live

  -- the live object that begins at b has the word at a
  pub record IsObjectOver (a b : ℕ) : Type 0 where
    pub begins : IsTrue (is_begin b)
    pub has_word : IsTrue (is_word_of image b a)

  -- the words at k - 1 and at k belong to the same object
  abbrev pub continues_at : ℕ → Bool
  continues_at k = list_any (λ a. nat_lt a k && nat_lt k (end_of image a)) image.live

  -- the live objects with indices below i begin below the address, and the others don't
  pub record IsFirstObject (address i : ℕ) : Type 0 where
    pub inside : i ≤ length image.live
    pub before : (j : ℕ) → j < i → slice_index image.live j < address
    pub behind : (j : ℕ) → i ≤ j → j < length image.live → address ≤ slice_index image.live j

  -- the bits of the addresses at which live objects begin
  pub record AreBegins (begins : List ℕ) : Type 0 where
    pub room : length begins ≡ bit_words
    pub bits : (a : ℕ) → has begins a ≡ is_begin a

  -- room for the bits of the addresses from 64 * start on, of which none is set yet
  pub record IsBlankPart (start : ℕ) (words : List ℕ) : Type 0 where
    pub inside : start + length words ≤ bit_words
    pub none : All (λ word. word ≡ 0) words
