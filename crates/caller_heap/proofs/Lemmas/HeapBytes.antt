-- What the bytes of a heap tell of its image.
use Rattle.std.proofs.Common.{◌≡◌, ℕ, ◌*◌, ◌<◌, ◌^◌, List, length, sym, ◌∙◌, ap, arith, length-append}
use Rattle.std.proofs.lemmas.Nat.{from_le_bytes-to_le_bytes_8}
use Rattle.object_heap.specs.HeapImage.{HeapImage, IsValid, heap_words}
use Rattle.object_heap.specs.declared.version.Version.{Version}
use Rattle.heap_image.specs.ImageText.{text, with_tail, version_of_magic, encoded_version, encoded_words}
use Rattle.object_heap.specs.Version.{magic}
use Rattle.image_streams.specs.Numbers.{numbers}
use Rattle.caller_heap.specs.declared.settings.HeapSettings.{HeapSettings}
use Rattle.caller_heap.specs.HeapWords.{heap_bytes}

module _ (version : Version) (settings : HeapSettings) (words tail : List ℕ) (image : HeapImage) (valid : IsValid image) (e : heap_bytes version settings words tail ≡ text image) where
  pub version_of_bytes : ((v : Version) → version_of_magic (magic v) ≡ v) → image.version ≡ version
  version_of_bytes magic_names = sym (sym (magic_names version) ∙ ap encoded_version e ∙ magic_names image.version)

  module _ (few : length words < 2 ^ 64) where
    pub words_of_bytes : encoded_words (text image) ≡ heap_words image → heap_words image ≡ length words
    words_of_bytes told = sym (sym (from_le_bytes-to_le_bytes_8 (length words) few) ∙ ap encoded_words e ∙ told)

    pub tail_of_bytes : encoded_words (text image) ≡ heap_words image → ((xs : List ℕ) → length (numbers xs) ≡ 8 * length xs) → length (with_tail image).live ≡ length tail
    tail_of_bytes told length-numbers =
        let listed = with_tail image in
        let one = length-append (numbers words) (numbers tail) in
        let two = length-append (numbers image.words) (numbers listed.live) in
        let a = length-numbers words in
        let b = length-numbers tail in
        let c = length-numbers image.words in
        let d = length-numbers listed.live in
        let same = words_of_bytes told in
        let whole = ap length e in
        omega arith
