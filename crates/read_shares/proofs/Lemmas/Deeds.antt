-- A deed by value: a pointer and the allocator's handle, as a box has them. Assumes `Logic`.
--     R, P, B, D      the value, the handle, the box and the deed as rows
--     deed_in, deed_out      a deed is made of what it owns, and taken apart
use Rattle.std.proofs.Common.{◌≡◌, ℕ, List, [], ◌∷◌, ◌++◌, ap, refl, ◌∙◌}
use seplogic.Ra.Ura.{Ura}
use base.Fml.{Fml, flent}
use base.Fraction.{full_share}
use base.Logic.{ent, sep}
use contract.Monad.{fact}
use mir.Raw.{raw as bare}
use mir.Val.{Val, of_list, vptr, vstruct}
use types.Kit.{Goal, Item, Seq, ‵, raw, ◌$◌, ◌∵◌, !, qed, done, drop, feq_i, feq_l, fjoin, fpack, fpick, fsplit, move, use1}
use types.Logic.{Logic, sem}
use denote.RattleType.{RattleType, Valss}
use denote.RawPtr.{InBlock, Ptr, RawPtr, at_block, block_of, block_ptr, count_of, lies_at, ptr_val}
use denote.Steps.{heard, nothing}
use denote.Struct.Lending.{in_block_says}
use denote.Struct.Owning.{shape}
use denote.Struct.Struct.{within}
use Rattle.core.proofs.alloc.Calls.{Fits, handle_tells, token}
use Rattle.std_alloc.proofs.BoxSteps.Form as box
use Rattle.read_shares.specs.ReadShare.{term}
use Rattle.read_shares.specs.contracts.deed.Deed as deed

module _ (E : box.Bx) where
  abbrev pub D : RattleType
  D = deed.the_row (box.R E) (box.P E) E.al.g

  -- the value in memory, for which a box is lent
  abbrev pub lying : Ptr → box.X E → Fml
  lying = lies_at (box.R E) full_share

  -- the right to free its block
  abbrev pub freeing : E.al.row.Denot → Ptr → Fml
  freeing a p = token E.al a (bare (box.τ E)) p

  abbrev pub deed_of : Ptr → E.al.row.Denot → box.X E → ℕ → D.Denot
  deed_of p a x n = record { at = p; alloc = a; value = x; origin = n }

  module _ {M : Type 1} {𝓤 : Ura M} (𝓛 : Logic 𝓤) where
    pub deed_in : (b o : ℕ) (hv : Val) (a : E.al.row.Denot) (x : box.X E) (n : ℕ) → let p = block_ptr b o in
        ent 𝓤 (sep 𝓤 (sem 𝓛 (box.handle E a hv)) (sep 𝓤 (sem 𝓛 (flent (term n) (lying p x))) (sem 𝓛 (freeing a p)))) (sem 𝓛 (D.own_val (deed_of p a x n) (box.word E hv b o ∷ [])))
    deed_in b o hv a x n = let p = block_ptr b o in
        qed 𝓛 (‵ (box.handle E a hv) ∷ ‵ (flent (term n) (lying p x)) ∷ ‵ (freeing a p) ∷ []) ∵
        nothing ! $ move ! (3 ∷ 0 ∷ []) $ fjoin ! $ move ! (2 ∷ 0 ∷ []) $ fjoin ! $
        nothing ! $ move ! (2 ∷ 0 ∷ []) $ fjoin ! $ feq_i ! (List Val) (vptr b o ∷ []) (ptr_val p ∷ []) refl $ fjoin ! $
        feq_i ! (List Val) (box.word E hv b o ∷ []) (box.word E hv b o ∷ []) refl $ fjoin ! $
        fpack ! (Valss (RawPtr ∷ box.P E ∷ [])) (within (shape (deed.the_type (box.R E) (box.P E) E.al.g)) (p, (a, tt)) (box.word E hv b o ∷ [])) (vptr b o ∷ [], (hv ∷ [], tt)) $ fjoin ! $ done !

  module _ {M : Type 1} {𝓤 : Ura M} {𝓛 : Logic 𝓤} {K : Type 0} {Γ : List (Item 𝓤)} {G : Goal 𝓤 𝓛.H} where
    pub deed_out : K → (d : D.Denot) (vs : List Val)
        → ((b o : ℕ) (hv : Val) → d.at ≡ block_ptr b o → vs ≡ box.word E hv b o ∷ [] → Fits E.al hv
        → Seq K 𝓛 (‵ (box.handle E d.alloc hv) ∷ ‵ (freeing d.alloc d.at) ∷ ‵ (flent (term d.origin) (lying d.at d.value)) ∷ Γ) G)
        → Seq K 𝓛 (‵ (D.own_val d vs) ∷ Γ) G
    deed_out t d vs next =
        fsplit t $ move t (1 ∷ []) $ fsplit t $ move t (1 ∷ []) $ fsplit t $ move t (1 ∷ []) $
        use1 𝓛 (raw (fact 𝓤 (InBlock d.at))) (in_block_says 𝓛 d.at) $ heard t (InBlock d.at) (λ inside. move t (2 ∷ []) $
        -- [the fields; the right to free; the lender's right]
        fpick t (λ vss. fsplit t $ feq_l t (λ is. fsplit t $ feq_l t (λ pointer. fsplit t $ handle_tells E.al t d.alloc vss.1.0 (λ hv handle fits. move t (1 ∷ []) $ drop t $
        next (block_of d.at) (count_of d.at) hv (at_block d.at inside)
        (is ∙ (λ j. vstruct (of_list ((pointer ∙ ap (λ (q : Ptr). ptr_val q ∷ []) (at_block d.at inside)) j ++ (handle j ++ []))) ∷ [])) fits)))))
