-- The first difference between an image and the one that it should be.
use Rattle.std.specs.Prelude.{◌≡◌, ℕ, length, slice_index}
use Rattle.std.specs.Option.{is_some}
use Rattle.object_heap.specs.HeapImage.{HeapImage, heap_words, word_at, roots_of}
use Rattle.verification.specs.Difference.{AreAlike, IsLeastDifference}
use Rattle.verification.specs.declared.verdict.Verdict.{Verdict}
use Rattle.verification.specs.declared.verdict.Verdict.TheVariants.{Same, Shape, Word, Live, Root}

-- the number of an image's roots, and the i-th root, from 0
abbrev pub root_count : HeapImage → ℕ
root_count image = length (roots_of image)

abbrev pub root_at : HeapImage → ℕ → ℕ
root_at image i = slice_index (roots_of image) i

-- two images are alike in all but their words, live addresses and roots
pub record HaveSameShape (wanted found : HeapImage) : Type 0 where
  pub layout : found.layout ≡ wanted.layout
  pub region_log : found.region_log ≡ wanted.region_log
  pub words : heap_words found ≡ heap_words wanted
  pub allowance : found.allowance ≡ wanted.allowance
  pub live : length found.live ≡ length wanted.live
  pub version : found.version ≡ wanted.version
  pub rooted : is_some found.roots ≡ is_some wanted.roots
  pub roots : root_count found ≡ root_count wanted

-- The first difference decides: in the shape, else the lowest in the words, else in the live list, else in the roots.
abbrev pub IsVerdict : HeapImage → HeapImage → Verdict → Type 0
IsVerdict wanted found Same = found ≡ wanted
IsVerdict wanted found Shape = ¬ (HaveSameShape wanted found)
IsVerdict wanted found (Word a) = HaveSameShape wanted found × IsLeastDifference (word_at wanted) (word_at found) (heap_words wanted) a
IsVerdict wanted found (Live i) = HaveSameShape wanted found × (found.words ≡ wanted.words) × IsLeastDifference (slice_index wanted.live) (slice_index found.live) (length wanted.live) i
IsVerdict wanted found (Root i) = HaveSameShape wanted found × (found.words ≡ wanted.words) × (found.live ≡ wanted.live) × IsLeastDifference (root_at wanted) (root_at found) (root_count wanted) i

-- the same, where the words at this address and above count as equal
abbrev pub IsVerdictBelow : ℕ → HeapImage → HeapImage → Verdict → Type 0
IsVerdictBelow limit wanted found Same = HaveSameShape wanted found × AreAlike (word_at wanted) (word_at found) limit × (found.live ≡ wanted.live) × (found.roots ≡ wanted.roots)
IsVerdictBelow limit wanted found Shape = ¬ (HaveSameShape wanted found)
IsVerdictBelow limit wanted found (Word a) = HaveSameShape wanted found × IsLeastDifference (word_at wanted) (word_at found) limit a
IsVerdictBelow limit wanted found (Live i) = HaveSameShape wanted found × AreAlike (word_at wanted) (word_at found) limit × IsLeastDifference (slice_index wanted.live) (slice_index found.live) (length wanted.live) i
IsVerdictBelow limit wanted found (Root i) = HaveSameShape wanted found × AreAlike (word_at wanted) (word_at found) limit × (found.live ≡ wanted.live) × IsLeastDifference (root_at wanted) (root_at found) (root_count wanted) i

-- the first difference in the live lists, else in the roots
abbrev pub IsVerdictOnLists : HeapImage → HeapImage → Verdict → Type 0
IsVerdictOnLists wanted found Same = (found.live ≡ wanted.live) × (found.roots ≡ wanted.roots)
IsVerdictOnLists wanted found Shape = ⊥
IsVerdictOnLists wanted found (Word a) = ⊥
IsVerdictOnLists wanted found (Live i) = IsLeastDifference (slice_index wanted.live) (slice_index found.live) (length wanted.live) i
IsVerdictOnLists wanted found (Root i) = (found.live ≡ wanted.live) × IsLeastDifference (root_at wanted) (root_at found) (root_count wanted) i
