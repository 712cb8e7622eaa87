-- The text of a valid image encodes that image.
use Rattle.std.proofs.Common.{◌≡◌, ℕ, zero, suc, ◌+◌, ◌-◌, ◌*◌, ◌≤◌, ◌<◌, ◌^◌, List, [], ◌∷◌, ◌++◌, length, get_or, take, drop, refl, sym, ◌∙◌, ap, subst, arith, append_assoc, length-append, Option, Some, None}
use Rattle.std.proofs.lemmas.Bool.{true≢false}
use Rattle.std.proofs.lemmas.Nat.{from_le_bytes-to_le_bytes_4, from_le_bytes-to_le_bytes_8}
use Rattle.std.proofs.lemmas.List.{drop-drop, drop_at, append-nil}
use Rattle.std.proofs.lemmas.List.Elements.{All-from_get_or}
use Rattle.std.proofs.lemmas.List.FromFn.{fill_by_all}
use Rattle.std.specs.Prelude.{map, All, IfSome}
use Rattle.std.specs.Option.{is_some}
use Rattle.std.specs.List.{range_with_len}
use Rattle.std.specs.Int.{w64, to_le_bytes, from_le_bytes}
use Rattle.object_heap.specs.HeapImage.{HeapImage, IsValid, AreRoots, heap_words, reachable, roots_or}
use Rattle.heap_image.specs.Reading.{HasFittingNumbers}
use Rattle.object_heap.specs.Version.{has_roots}
use Rattle.object_heap.specs.declared.version.Version.{Version}
use Rattle.object_heap.specs.declared.version.Version.TheVariants.{One, Two, Three}
use Rattle.heap_image.specs.ImageText.{front, text, listed_text, with_tail, from_tail, encoded_version, encoded_image, encoded_numbers, encoded_words, encoded_count, encoded_region_log, encoded_length}
use Rattle.image_streams.specs.Numbers.{numbers, u64_at}
use Rattle.heap_image.proofs.Lemmas.LiveWords.{live_end-le}
use Rattle.heap_image.specs.Front.{FitsFront}
use Rattle.heap_image.proofs.Lemmas.Versions.{few_of_listed, magic_names}

pub length-numbers : (xs : List ℕ) → length (numbers xs) ≡ 8 * length xs
length-numbers [] = refl
length-numbers (x ∷ xs) = let more = length-numbers xs in omega arith

pub number_bytes : (xs ys : List ℕ) (i : ℕ) → i < length xs → take 8 (drop (8 * i) (numbers xs ++ ys)) ≡ to_le_bytes w64 (get_or xs i 0)
number_bytes [] ys i l = let no : ⊥ = omega arith in absurd no
number_bytes (x ∷ xs) ys zero l = refl
number_bytes (x ∷ xs) ys (suc i) l =
    let e : 8 * suc i ≡ 8 + 8 * i = omega arith in
    ap (λ n. take 8 (drop n (numbers (x ∷ xs) ++ ys))) e
    ∙ ap (take 8) (sym (drop-drop (8 * i) 8 (numbers (x ∷ xs) ++ ys)))
    ∙ number_bytes xs ys i (omega arith)

-- a number after the first bytes
u64_at-behind : (bytes rest : List ℕ) (n i x : ℕ) → drop n bytes ≡ rest → take 8 (drop (8 * i) rest) ≡ to_le_bytes w64 x → x < 2 ^ 64 → u64_at bytes (n + 8 * i) ≡ x
u64_at-behind bytes rest n i x e at fits =
    let width : n + 8 * i + 8 - (n + 8 * i) ≡ 8 = omega arith in
    ap (λ w. from_le_bytes w64 (take w (drop (n + 8 * i) bytes))) width
    ∙ ap (λ l. from_le_bytes w64 (take 8 l)) (sym (drop-drop (8 * i) n bytes) ∙ ap (drop (8 * i)) e)
    ∙ ap (from_le_bytes w64) at
    ∙ from_le_bytes-to_le_bytes_8 x fits

-- what a front encodes, whatever follows it
module _ (version : Version) (log live_count words allowance : ℕ) (limits : FitsFront version log words live_count) (behind : List ℕ) where
  abbrev pub fronted : List ℕ
  fronted = front version log live_count words allowance ++ behind

  pub front_log : encoded_region_log fronted ≡ log
  front_log = let low = limits.limits.region_log_high in from_le_bytes-to_le_bytes_4 log (omega arith)

  pub front_live : encoded_count fronted ≡ live_count
  front_live = let few = limits.counted in from_le_bytes-to_le_bytes_4 live_count (omega arith)

  pub front_words : encoded_words fronted ≡ words
  front_words = let less = limits.limits.few_words in from_le_bytes-to_le_bytes_8 words (omega arith)

  pub front_length : encoded_length fronted ≡ 32 + 8 * words + 8 * live_count
  front_length = let w = front_words in let l = front_live in omega arith

-- an image without roots has few words
pub few_listed : (image : HeapImage) → IsValid image → image.roots ≡ None → heap_words image ≤ 4194304
few_listed image valid e = few_of_listed image.version (heap_words image) (sym valid.versioned ∙ ap is_some e) valid.allowed.few_words

-- the numbers after the words are no more than the words, and fit
tail_fits : (image : HeapImage) → IsValid image → (roots : Option (List ℕ)) → image.roots ≡ roots
    → (length (roots_or image.live roots) ≤ heap_words image) × (length (roots_or image.live roots) < 2 ^ 32) × All (λ a. a < 2 ^ 64) (roots_or image.live roots)
tail_fits image valid None e = (
  valid.limits.few_live,
  (let few = few_listed image valid e in let live = valid.limits.few_live in omega arith),
  All-from_get_or (λ a. a < 2 ^ 64) image.live 0 (λ i l. let e = live_end-le image valid.live_list i l in let less = valid.limits.few_words in omega arith),
)
tail_fits image valid (Some roots) e =
    let rooted : AreRoots image roots = subst (λ o. IfSome o (AreRoots image)) e valid.rooted in
    (rooted.few, rooted.counted, All-from_get_or (λ a. a < 2 ^ 64) roots 0 (λ i l. let inside = rooted.inside i 0 l in let less = valid.limits.few_words in omega arith))

pub valid_numbers : (image : HeapImage) → IsValid image → HasFittingNumbers image.version (with_tail image)
valid_numbers image valid =
    let fits = tail_fits image valid image.roots refl in
    record {
      limits = record {
        region_log_low = valid.limits.region_log_low;
        region_log_high = valid.limits.region_log_high;
        not_empty = valid.limits.not_empty;
        whole_regions = valid.limits.whole_regions;
        few_words = valid.limits.few_words;
        few_regions = valid.limits.few_regions;
        few_live = fits.0;
      };
      allowed = record { region_log_high = valid.allowed.region_log_high; few_words = valid.allowed.few_words; few_regions = valid.allowed.few_regions };
      counted = fits.1;
      allowance = valid.allowance_fits;
      words = valid.words_fit;
      live = fits.2;
      plain = refl;
      listed = refl;
      own = valid.own;
    }

-- what is reached depends on the words alone
pub reachable-words : (image : HeapImage) (version : Version) (live : List ℕ) (other : Option (List ℕ)) (roots : List ℕ) → reachable (record image { version = version; live = live; roots = other }) roots ≡ reachable image roots
unfolding reachable
reachable-words image version live other roots = refl

-- a valid image is determined by its version, its words and the numbers after them
from_tail-of : (image : HeapImage) → IsValid image → (version : Version) → image.version ≡ version → (roots : Option (List ℕ)) → image.roots ≡ roots → is_some roots ≡ has_roots version
    → from_tail version (record image { version = One; live = roots_or image.live roots; roots = None }) ≡ image
from_tail-of image valid One v None e h = λ i. record { version = sym v i; layout = image.layout; region_log = image.region_log; allowance = image.allowance; words = image.words; live = image.live; roots = sym e i }
from_tail-of image valid One v (Some roots) e h = absurd (true≢false h)
from_tail-of image valid Two v None e h = absurd (true≢false (sym h))
from_tail-of image valid Two v (Some roots) e h =
    let rooted : AreRoots image roots = subst (λ o. IfSome o (AreRoots image)) e valid.rooted in
    let same = reachable-words image One roots None roots ∙ sym rooted.reached in
    λ i. record { version = sym v i; layout = image.layout; region_log = image.region_log; allowance = image.allowance; words = image.words; live = same i; roots = sym e i }
from_tail-of image valid Three v None e h = absurd (true≢false (sym h))
from_tail-of image valid Three v (Some roots) e h =
    let rooted : AreRoots image roots = subst (λ o. IfSome o (AreRoots image)) e valid.rooted in
    let same = reachable-words image One roots None roots ∙ sym rooted.reached in
    λ i. record { version = sym v i; layout = image.layout; region_log = image.region_log; allowance = image.allowance; words = image.words; live = same i; roots = sym e i }

pub from_tail-with_tail : (image : HeapImage) → IsValid image → from_tail image.version (with_tail image) ≡ image
from_tail-with_tail image valid = from_tail-of image valid image.version refl image.roots refl valid.versioned

-- the numbers of a text are those of its front
pub front_fits : (version : Version) (image : HeapImage) → HasFittingNumbers version image → FitsFront version image.region_log (heap_words image) (length image.live)
front_fits version image fits = record { limits = fits.limits; allowed = fits.allowed; counted = fits.counted }

-- a text, and what follows it
module _ (version : Version) (image : HeapImage) (fits : HasFittingNumbers version image) (rest : List ℕ) where
  abbrev pub bytes : List ℕ
  bytes = listed_text version image ++ rest

  behind_front : drop 32 bytes ≡ (numbers image.words ++ numbers image.live) ++ rest
  behind_front = refl

  behind_words : drop (32 + 8 * heap_words image) bytes ≡ numbers image.live ++ rest
  behind_words =
      sym (drop-drop (8 * heap_words image) 32 bytes)
      ∙ ap (drop (8 * heap_words image)) (append_assoc (numbers image.words) (numbers image.live) rest)
      ∙ drop_at (numbers image.words) (numbers image.live ++ rest) (8 * heap_words image) (length-numbers image.words)

  pub log_told : encoded_region_log bytes ≡ image.region_log
  log_told = front_log version image.region_log (length image.live) (heap_words image) image.allowance (front_fits version image fits) ((numbers image.words ++ numbers image.live) ++ rest)

  pub live_told : encoded_count bytes ≡ length image.live
  live_told = front_live version image.region_log (length image.live) (heap_words image) image.allowance (front_fits version image fits) ((numbers image.words ++ numbers image.live) ++ rest)

  pub words_told : encoded_words bytes ≡ heap_words image
  words_told = front_words version image.region_log (length image.live) (heap_words image) image.allowance (front_fits version image fits) ((numbers image.words ++ numbers image.live) ++ rest)

  allowance_told : u64_at bytes 24 ≡ image.allowance
  allowance_told = from_le_bytes-to_le_bytes_8 image.allowance fits.allowance

  word_told : (a : ℕ) → a < heap_words image → get_or image.words a 0 ≡ u64_at bytes (32 + 8 * a)
  word_told a l = sym (u64_at-behind bytes (numbers image.words ++ (numbers image.live ++ rest)) 32 a (get_or image.words a 0) (behind_front ∙ append_assoc (numbers image.words) (numbers image.live) rest) (number_bytes image.words (numbers image.live ++ rest) a l) (fits.words a 0 l))

  address_told : (i : ℕ) → i < length image.live → get_or image.live i 0 ≡ u64_at bytes (32 + 8 * heap_words image + 8 * i)
  address_told i l = sym (u64_at-behind bytes (numbers image.live ++ rest) (32 + 8 * heap_words image) i (get_or image.live i 0) behind_words (number_bytes image.live rest i l) (fits.live i 0 l))

  pub encoded_numbers-append : encoded_numbers bytes ≡ image
  encoded_numbers-append =
      let ws : (encoded_numbers bytes).words ≡ image.words = ap (λ n. map (λ a. u64_at bytes (32 + 8 * a)) (range_with_len 0 n)) words_told ∙ sym (fill_by_all (λ a. u64_at bytes (32 + 8 * a)) image.words (heap_words image) 0 refl word_told) in
      let ls : (encoded_numbers bytes).live ≡ image.live =
      ap (λ n. map (λ i. u64_at bytes (32 + 8 * n + 8 * i)) (range_with_len 0 (encoded_count bytes))) words_told
      ∙ ap (λ n. map (λ i. u64_at bytes (32 + 8 * heap_words image + 8 * i)) (range_with_len 0 n)) live_told
      ∙ sym (fill_by_all (λ i. u64_at bytes (32 + 8 * heap_words image + 8 * i)) image.live (length image.live) 0 refl address_told) in
      λ i. record { version = sym fits.listed i; layout = sym fits.own i; region_log = log_told i; allowance = allowance_told i; words = ws i; live = ls i; roots = sym fits.plain i }

  pub length_told : encoded_length bytes ≡ length (listed_text version image)
  length_told =
      let both = length-append (numbers image.words) (numbers image.live) in
      let ws = length-numbers image.words in
      let ls = length-numbers image.live in
      let all : length (listed_text version image) ≡ 32 + length (numbers image.words ++ numbers image.live) = omega arith in
      let w = words_told in
      let l = live_told in
      omega arith

  -- the magic determines the version
  pub version_told : encoded_version bytes ≡ version
  version_told = magic_names version

  pub encoded_image-append : encoded_image bytes ≡ from_tail version image
  encoded_image-append = ap (λ v. from_tail v (encoded_numbers bytes)) version_told ∙ ap (from_tail version) encoded_numbers-append

pub encoded_image-text : (image : HeapImage) → IsValid image → encoded_image (text image) ≡ image
encoded_image-text image valid =
    ap encoded_image (sym (append-nil (text image)))
    ∙ encoded_image-append image.version (with_tail image) (valid_numbers image valid) []
    ∙ from_tail-with_tail image valid

-- two valid images with one text are equal
pub text-injective : (image other : HeapImage) → IsValid image → IsValid other → text image ≡ text other → image ≡ other
text-injective image other v w e = sym (encoded_image-text image v) ∙ ap encoded_image e ∙ encoded_image-text other w
