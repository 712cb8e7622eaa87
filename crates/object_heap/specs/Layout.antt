-- How a heap codes its objects: what headers say, and how references and fillers are written.
use Rattle.std.specs.Prelude.{◌≡◌, ℕ, ◌+◌, ◌-◌, ◌*◌, ◌/◌, ◌%◌, ◌^◌, ◌<◌, ◌≤◌, ◌==◌, Bool, ◌&&◌, nat_lt, nat_le, if◌then◌else◌, List, [], ◌∷◌, ◌++◌, replicate, slice_index}
use Rattle.object_heap.specs.Header.{size_of, references_of, kind_of, filler_header}

-- The numbers of a coding. The references of an object follow its header.
pub record Coding : Type 0 where
  -- of a header: where its size is, what is to be added to it, and the logarithm of the number of its units in a word
  pub size_shift : ℕ
  pub size_bits : ℕ
  pub size_more : ℕ
  pub size_unit : ℕ
  -- where its type is, and for each type whether no word (0), all (1) or the first ones (2) are references
  pub type_shift : ℕ
  pub type_bits : ℕ
  pub modes : List ℕ
  -- where the number of the first ones is
  pub first_shift : ℕ
  pub first_bits : ℕ
  -- the reference to address 0, the logarithm of the distance from one address to the next, and how many addresses there
  -- are: a word that isn't at such a distance leads nowhere
  pub base : ℕ
  pub unit : ℕ
  pub count : ℕ
  -- the header of a filler without its size, and what its size lacks
  pub filler_tag : ℕ
  pub filler_less : ℕ

-- that of images in files, or that of a host
pub data Layout : Type 0 where
  Own : Layout
  Coded : Coding → Layout

module _ (c : Coding) where
  abbrev pub coded_size : ℕ → ℕ
  coded_size header = (header / 2 ^ c.size_shift % 2 ^ c.size_bits + c.size_more) / 2 ^ c.size_unit

  abbrev pub coded_mode : ℕ → ℕ
  coded_mode header = slice_index c.modes (header / 2 ^ c.type_shift % 2 ^ c.type_bits)

  abbrev pub coded_references : ℕ → ℕ
  coded_references header = if coded_mode header == 0 then 0 else
      if coded_mode header == 1 then coded_size header - 1 else header / 2 ^ c.first_shift % 2 ^ c.first_bits

  -- the word is at a distance at which an address is
  abbrev pub is_coded : ℕ → Bool
  is_coded w = nat_le c.base w && ((w - c.base) % 2 ^ c.unit == 0) && nat_lt ((w - c.base) / 2 ^ c.unit) c.count

  abbrev pub coded_reference : ℕ → ℕ
  coded_reference w = if is_coded w then (w - c.base) / 2 ^ c.unit + 1 else 0

  abbrev pub coded_redirected : ℕ → ℕ → ℕ
  coded_redirected w r = if is_coded w then c.base + 2 ^ c.unit * (r - 1) else w

  abbrev pub coded_filler : ℕ → ℕ
  coded_filler n = c.filler_tag + 2 ^ c.size_shift * (2 ^ c.size_unit * n - c.filler_less)

-- of a header: the size in words, header included, the number of references, and the kind, which is 1 for an object
abbrev pub size_in : Layout → ℕ → ℕ
size_in Own header = size_of header
size_in (Coded c) header = coded_size c header

abbrev pub references_in : Layout → ℕ → ℕ
references_in Own header = references_of header
references_in (Coded c) header = coded_references c header

abbrev pub kind_in : Layout → ℕ → ℕ
kind_in Own header = kind_of header
kind_in (Coded c) header = 1

-- 1 plus the address to which a word leads, or 0 if it leads nowhere
abbrev pub reference_in : Layout → ℕ → ℕ
reference_in Own w = w
reference_in (Coded c) w = coded_reference c w

-- the word in its place that leads to another address
abbrev pub redirected_in : Layout → ℕ → ℕ → ℕ
redirected_in Own w r = r
redirected_in (Coded c) w r = coded_redirected c w r

abbrev pub filler_in : Layout → ℕ → ℕ
filler_in Own n = filler_header n
filler_in (Coded c) n = coded_filler c n

-- What proofs need of a layout of a heap with this number of words: a redirected reference leads where it is to; a word
-- that leads nowhere, or where it is to lead, stays; the size of a filler reads back.
pub record IsLayout (layout : Layout) (words : ℕ) : Type 0 where
  pub leads : (w r : ℕ) → 0 < reference_in layout w → 0 < r → r ≤ words → reference_in layout (redirected_in layout w r) ≡ r
  pub stays : (w : ℕ) → redirected_in layout w (reference_in layout w) ≡ w
  pub fits : (w r : ℕ) → w < 2 ^ 64 → r ≤ words → redirected_in layout w r < 2 ^ 64
  pub filler-size : (n : ℕ) → 0 < n → n ≤ words → n ≤ 2147483648 → size_in layout (filler_in layout n) ≡ n

-- The numbers fit each other, for a heap of this number of words.
pub record IsCoding (c : Coding) (words : ℕ) : Type 0 where
  pub all : c.count ≡ words
  pub room : c.base + 2 ^ c.unit * words ≤ 2 ^ 64
  pub apart : c.filler_tag / 2 ^ c.size_shift % 2 ^ c.size_bits ≡ 0
  pub least : c.filler_less ≤ c.size_more
  pub most : c.size_more < c.filler_less + 2 ^ c.size_unit
  pub some : c.filler_less ≤ 2 ^ c.size_unit
  pub large : 2 ^ c.size_unit * 2147483648 < 2 ^ c.size_bits

-- OCaml 4.14 and later: the size in words without the header in bits 10 to 63 and a tag in bits 0 to 7; from tag 251 on
-- no word is a reference. A reference is the machine address of the first field. `start` is the machine address of word 0.
abbrev pub ocaml : ℕ → ℕ → Coding
ocaml start words = record {
  size_shift = 10;
  size_bits = 54;
  size_more = 1;
  size_unit = 0;
  type_shift = 0;
  type_bits = 8;
  modes = replicate 251 1 ++ replicate 5 0;
  first_shift = 0;
  first_bits = 0;
  base = start + 8;
  unit = 3;
  count = words;
  filler_tag = 251;
  filler_less = 1;
}

-- Scheme 48: the size in bytes without the header in bits 8 to 63, a type in bits 2 to 6, from 16 on without references,
-- and 13 for weak pointers. A reference is the machine address of the first field plus 3.
abbrev pub scheme48 : ℕ → ℕ → Coding
scheme48 start words = record {
  size_shift = 8;
  size_bits = 56;
  size_more = 15;
  size_unit = 3;
  type_shift = 2;
  type_bits = 5;
  modes = replicate 13 1 ++ (0 ∷ replicate 2 1) ++ replicate 16 0;
  first_shift = 0;
  first_bits = 0;
  base = start + 11;
  unit = 3;
  count = words;
  filler_tag = 70;
  filler_less = 8;
}
