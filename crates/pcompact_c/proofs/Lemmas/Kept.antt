-- Handles that have their parts, but may have them elsewhere.
use Rattle.std.proofs.Common.{◌≡◌, ◌∙◌, List, ◌++◌, ◌∷◌, [], ap, sym}
use Rattle.std.specs.Prelude.{Option, Some, None, map, option_map, option_and_then}
use Rattle.collector.specs.declared.session.share.Share.{Share}
use Rattle.object_heap.specs.HeapImage.{HeapImage}
use Rattle.collector.specs.Sessions.{image_of}
use Rattle.caller_heap.specs.declared.part.Part.{Part}
use Rattle.pcompact_c.specs.Handles.{Handle, HaveSameParts, IsLastIn, image_in, share_in}
use Rattle.pcompact_c.proofs.Lemmas.Shares.{ends, same_end}

-- the image of the last of them is as it was
pub last_kept : (image : HeapImage) (before after : List Handle) → HaveSameParts before after → IsLastIn image after → IsLastIn image before
last_kept image before after same last =
    let found = ends (λ (h : Handle). h.2) (λ (h : Handle). h.2) before last.0 last.1 (sym same ∙ ap (map (λ (h : Handle). h.2)) last.2) in
    (found.0, found.1, found.2, ap (λ o. option_map image_of (option_and_then (λ (part : Part). part.share) o)) found.3 ∙ last.3)

-- so is its share
pub last_share : (before after : List Handle) → HaveSameParts before after → (firsts others : List Handle) (first last : Handle) (share : Share)
    → before ≡ firsts ++ first ∷ [] → after ≡ others ++ last ∷ [] → share_in last ≡ Some share → share_in first ≡ Some share
last_share before after same firsts others first last share is was shared =
    let part = same_end (λ (h : Handle). h.2) firsts others first last
    (ap (map (λ (h : Handle). h.2)) (sym is) ∙ sym same ∙ ap (map (λ (h : Handle). h.2)) was) in
    ap (option_and_then (λ (part : Part). part.share)) part ∙ shared

-- what is the same in an option is the same
pub same_some : {A : Type 0} (x y : A) → Some x ≡ Some y → x ≡ y
same_some x y e = ap (λ o. or_else x o) e
  where
    or_else : {A : Type 0} → A → Option A → A
    or_else d None = d
    or_else d (Some a) = a

-- a handle with a share is in the compaction of the image of that
pub image_in_share : (h : Handle) (share : Share) (image : HeapImage) → share_in h ≡ Some share → image_in h ≡ Some image → image_of share ≡ image
image_in_share h share image shared is = same_some (image_of share) image (sym (ap (option_map image_of) shared) ∙ is)
