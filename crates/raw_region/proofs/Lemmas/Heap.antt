-- A block of n words as the allocator sees it. Assumes `Logic`.
--     layout_of      its size and its alignment
--     forgotten      memory whose words are given up is room
--     told           a proof's step: the two cases of what `allocate` answered
--     zeros_more     one more word is written to a row of zeros
--     words_more     one more of some words is written to a row of them
use mathlib.Core.Bool.{true, false}
use mathlib.Core.Path.{◌≡◌, refl, ap, ◌∙◌}
use mathlib.Core.List.{List, [], ◌∷◌, ◌++◌}
use Prim.Native.Nat.{ℕ, zero, suc, ◌+◌, ◌*◌, ◌<◌, ◌^◌}
use native.Mathlib.Omega.{arith}
use native.Mathlib.Nat.{le_of_suc-le-suc, not-suc-le-zero}
use lib.ListN.{get_or, length, replicate, take}
use seplogic.Ra.Ura.{Ura}
use base.Fraction.{full_share}
use base.Logic.{ent, sep, id⊢}
use base.Fml.{ftrue, fat, froom}
use mir.Syntax.{Ty, ty_array, ty_int, w64}
use mir.Val.{Val, of_list}
use prog.Capped.{capped_is}
use prog.Memory.{capped}
use prog.RawLaws.{size-raw, align-raw}
use types.Logic.{Logic, sem}
use types.Kit.{Item, Goal, Seq, ‵, ◌⊛◌, some, ◌$◌, ◌∵◌, !, qed, move, drop, use1, use2, split, fsplit, fjoin, fpick, feq_l, rewrite, pick, done}
use types.Match.{live}
use denote.Array.{Array}
use denote.Builtin.{u64}
use denote.Index.{row}
use denote.Memory.{part_at}
use denote.RawPtr.{Ptr, block_ptr, ptr_val, room_for, in_a_block}
use denote.Steps.{nothing, only}
use borrow.Table.OneValue.{part_out}
use Rattle.raw_region.specs.Block.{may_free}
use Rattle.core.specs.Allocator.{HasLayout, array_of, block_if_ok}
use Rattle.core.specs.declared.result.Result.TheVariants.{Ok, Err}
use Rattle.core.proofs.alloc.Calls.{Answer, answer_val}

pub layout_of : (n : ℕ) → n * 8 < 2 ^ 64 → HasLayout (array_of u64 n) (n * 8) 8
layout_of n fits = (ap capped (size-raw (ty_array (ty_int w64) n)) ∙ capped_is (n * 8) fits, ap capped (align-raw (ty_array (ty_int w64) n)))

-- memory whose words are given up is room
pub forgotten : {M : Type 1} {𝓤 : Ura M} (𝓛 : Logic 𝓤) (n : ℕ) (ws : List ℕ) (b o : ℕ) → ent 𝓤 (sem 𝓛 (part_at (Array u64 n) full_share ws b o)) (sem 𝓛 (froom (array_of u64 n) b o))
forgotten 𝓛 n ws b o =
    let τ : Ty = ty_array (ty_int w64) n in
    qed 𝓛 (‵ (part_at (Array u64 n) full_share ws b o) ∷ []) ∵
    use1 𝓛 (some (λ (v : Val). ‵ (fat full_share τ b o v) ⊛ ‵ ((Array u64 n).own_val ws (v ∷ [])))) (part_out 𝓛 (Array u64 n) refl full_share ws b o) $ pick ! (λ v. split ! $ move ! (1 ∷ []) $ drop ! $
    use1 𝓛 (‵ (froom τ b o)) (𝓛.laws.at_room τ b o v) $ use1 𝓛 (‵ (froom (array_of u64 n) b o)) (𝓛.laws.room-raw τ b o) $ done !)

-- what `allocate` answered: room and the right to free it, or nothing
module _ {M : Type 1} {𝓤 : Ura M} {𝓛 : Logic 𝓤} {K : Type 0} {Γ : List (Item 𝓤)} {G : Goal 𝓤 𝓛.H} where
  pub told : K → (τ : Ty) (v : Val) (r : Answer.Denot)
      → ((b o : ℕ) → v ≡ answer_val true b o → Seq K 𝓛 (‵ (froom τ b o) ∷ ‵ (may_free τ (block_ptr b o)) ∷ Γ) G) → (v ≡ answer_val false 0 0 → Seq K 𝓛 Γ G)
      → Seq K 𝓛 (‵ (Answer.own_val r (v ∷ [])) ∷ ‵ (block_if_ok may_free τ r) ∷ Γ) G
  told t τ v (Ok p) given refused =
      fpick t (λ _. fsplit t $ feq_l t (λ tagged. fpick t (λ _. fsplit t $ feq_l t (λ listed. fsplit t $ feq_l t (λ pointer. drop t $ fsplit t $
      in_a_block t p (λ z. room_for τ z) (id⊢ 𝓤 _) (λ b o e. rewrite t 1 (λ (z : Ptr). ‵ (may_free τ z)) e refl $
      given b o (ap only tagged ∙ ap (λ (ws : List Val). live 0 (of_list ws)) (listed ∙ ap (λ (ws : List Val). ws ++ []) (pointer ∙ ap (λ (z : Ptr). ptr_val z ∷ []) e)))))))))
  told t τ v (Err _) given refused =
      fpick t (λ _. fsplit t $ feq_l t (λ tagged. fpick t (λ _. fsplit t $ feq_l t (λ listed. fsplit t $ fpick t (λ _. fsplit t $ feq_l t (λ error. drop t $ drop t $ drop t $
      refused (ap only tagged ∙ ap (λ (ws : List Val). live 1 (of_list ws)) (listed ∙ ap (λ (ws : List Val). ws ++ []) error))))))))

-- one more zero after i of them
pub zeros_more : {M : Type 1} {𝓤 : Ura M} (𝓛 : Logic 𝓤) (i b o : ℕ)
    → ent 𝓤 (sep 𝓤 (sem 𝓛 (row u64 full_share (replicate i 0) b o)) (sem 𝓛 (part_at u64 full_share 0 b (i * 8 + o)))) (sem 𝓛 (row u64 full_share (replicate (suc i) 0) b o))
zeros_more 𝓛 zero b o =
    let here : 0 * 8 + o ≡ o = omega arith in
    qed 𝓛 (‵ ftrue ∷ ‵ (part_at u64 full_share 0 b (0 * 8 + o)) ∷ []) ∵ drop ! $ rewrite ! 0 (λ (k : ℕ). ‵ (part_at u64 full_share 0 b k)) here refl $
    nothing ! $ move ! (1 ∷ 0 ∷ []) $ fjoin ! $ done !
zeros_more 𝓛 (suc i) b o =
    let here : suc i * 8 + o ≡ i * 8 + (o + 8) = omega arith in
    qed 𝓛 (‵ (row u64 full_share (replicate (suc i) 0) b o) ∷ ‵ (part_at u64 full_share 0 b (suc i * 8 + o)) ∷ []) ∵ fsplit ! $ move ! (1 ∷ 2 ∷ []) $
    rewrite ! 1 (λ (k : ℕ). ‵ (part_at u64 full_share 0 b k)) here refl $
    use2 𝓛 (‵ (row u64 full_share (replicate (suc i) 0) b (o + 8))) (zeros_more 𝓛 i b (o + 8)) $ move ! (1 ∷ 0 ∷ []) $ fjoin ! $ done !

-- one more of the words xs after i of them
pub words_more : {M : Type 1} {𝓤 : Ura M} (𝓛 : Logic 𝓤) (xs : List ℕ) (i b o : ℕ) → i < length xs
    → ent 𝓤 (sep 𝓤 (sem 𝓛 (row u64 full_share (take i xs) b o)) (sem 𝓛 (part_at u64 full_share (get_or xs i 0) b (i * 8 + o)))) (sem 𝓛 (row u64 full_share (take (suc i) xs) b o))
words_more 𝓛 [] i b o inside = absurd (not-suc-le-zero inside)
words_more 𝓛 (x ∷ xs) zero b o inside =
    let here : 0 * 8 + o ≡ o = omega arith in
    qed 𝓛 (‵ ftrue ∷ ‵ (part_at u64 full_share x b (0 * 8 + o)) ∷ []) ∵ drop ! $ rewrite ! 0 (λ (k : ℕ). ‵ (part_at u64 full_share x b k)) here refl $
    nothing ! $ move ! (1 ∷ 0 ∷ []) $ fjoin ! $ done !
words_more 𝓛 (x ∷ xs) (suc i) b o inside =
    let here : suc i * 8 + o ≡ i * 8 + (o + 8) = omega arith in let word : ℕ = get_or xs i 0 in
    qed 𝓛 (‵ (row u64 full_share (x ∷ take i xs) b o) ∷ ‵ (part_at u64 full_share word b (suc i * 8 + o)) ∷ []) ∵ fsplit ! $ move ! (1 ∷ 2 ∷ []) $
    rewrite ! 1 (λ (k : ℕ). ‵ (part_at u64 full_share word b k)) here refl $
    use2 𝓛 (‵ (row u64 full_share (take (suc i) xs) b (o + 8))) (words_more 𝓛 xs i b (o + 8) (le_of_suc-le-suc inside)) $ move ! (1 ∷ 0 ∷ []) $ fjoin ! $ done !
