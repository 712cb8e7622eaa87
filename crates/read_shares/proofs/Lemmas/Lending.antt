-- A value is shared out and comes back, and a share is lent. Assumes `Logic`; t is what a `&` to the value holds.
--     begins      a new lifetime, and all of its token
--     shares_out, comes_back      the value is lent for a lifetime;  all parts of its token end that
--     Lends_share, lent_laws      the law of a `&` to a share
--     shown      a `&` to a share is a `&` to its value
--     lies, packed      the value isn't at null;  a share is made of its parts
use Rattle.std.proofs.Common.{ℕ, [], ◌∷◌}
use seplogic.Ra.Ura.{Ura}
use base.Fraction.{full_share}
use base.Logic.{ent, sep, emp, wand, apply∗}
use base.Fml.{Lft, Share, Fml, Incl, Incl-trans, ftrue, fsep, fex, fbor, flft, flent}
use contract.BorrowLft.{meet_⊑_left, meet_⊑_right}
use types.Logic.{Logic, sem, lfts}
use types.Kit.{‵, raw, ◌⊛◌, later, ◌$◌, ◌∵◌, !, qed, by, move, drop, use1, use2, split, split3, join, fsplit, fjoin, fpack, await, updating, now, done}
use types.Tokens.{lft_new, lft_end, bor_new, lent_back, bor_fracture}
use contract.Monad.{fact}
use denote.Moves.{moves_from}
use denote.RattleType.{RattleType, RowLaws}
use denote.RawPtr.{InBlock, Ptr}
use denote.Sharing.{ShrLaws, beside, held, one}
use denote.SharingLaws.{contraction, beside_shr_laws, held_shr_laws, one_shr_laws}
use denote.Steps.{nothing}
use denote.Struct.Lending.{Lends, Lends-both, Lends-first, in_block_says, lent_at, lent_at_shr_laws}
use Rattle.read_shares.specs.Fraction.{fraction}
use Rattle.read_shares.specs.Parts.{IsSome, all_parts}
use Rattle.read_shares.specs.ReadShare.{share_owns, term}
use Rattle.read_shares.specs.Term.{term_owns}
use Rattle.read_shares.proofs.Lemmas.Tokens.{is_all, is_whole}

pub begins : {M : Type 1} {𝓤 : Ura M} (𝓛 : Logic 𝓤) → ent 𝓤 (emp 𝓤) (𝓛.H.⇛ (sem 𝓛 (fex ℕ term_owns)))
begins 𝓛 = qed 𝓛 [] ∵ updating ! $ lft_new ! tt (λ n. fpack ! ℕ term_owns n $ now ! $ done !)

module _ (t : Lft → Fml) (L : ShrLaws t) where
  abbrev pub Part : ℕ → ℕ → Fml
  Part n k = fsep (flft (term n) (fraction k)) (t (term n))

  abbrev pub Shown : ℕ → Lft → Fml
  Shown n = beside (one (λ q. flft (term n) q)) (held (term n) t)

  pub lent_laws : (n : ℕ) → ShrLaws (Shown n)
  lent_laws n = beside_shr_laws (one (λ q. flft (term n) q)) (held (term n) t) (one_shr_laws (λ q. flft (term n) q)) (held_shr_laws (term n) t L)

  module _ {M : Type 1} {𝓤 : Ura M} (𝓛 : Logic 𝓤) where
    open 𝓛 use {H, A}

    Lends_token : (μ : Lft) (q : Share) (l : Lft) → Lends 𝓛 (flft μ q) (one (λ r. flft μ r)) l
    Lends_token μ q l κ ts inc sp = qed 𝓛 (‵ (fbor κ (flft μ q)) ∷ raw (lfts 𝓛 ts) ∷ []) ∵ updating ! $ bor_fracture ! tt (λ r. flft μ r) q $ now ! $ done !

    -- what is held for μ can be had twice, so a borrow of it is closed with one and leaves the other
    Lends_held : (μ l : Lft) → Lends 𝓛 (t μ) (held μ t) l
    Lends_held μ l κ ts inc sp =
        qed 𝓛 (‵ (fbor κ (t μ)) ∷ raw (lfts 𝓛 ts) ∷ []) ∵ updating ! $
        use2 𝓛 (later (‵ (t μ) ⊛ raw (wand 𝓤 (sem 𝓛 (t μ)) (H.⇛ (sep 𝓤 (A.bor κ (t μ)) (lfts 𝓛 ts)))))) (𝓛.more.bor_acc_by κ ts (t μ) sp) $ await ! tt $ split ! $
        use1 𝓛 (‵ (t μ) ⊛ ‵ (t μ)) (contraction 𝓛 t L μ) $ split ! $ move ! (0 ∷ 2 ∷ []) $
        use2 𝓛 (later (‵ (fbor κ (t μ)) ⊛ raw (lfts 𝓛 ts))) (apply∗ 𝓤 (sem 𝓛 (t μ)) (H.⇛ (sep 𝓤 (A.bor κ (t μ)) (lfts 𝓛 ts)))) $ await ! tt $ split ! $ drop ! $ move ! (1 ∷ 0 ∷ []) $ now ! $ done !

    pub Lends_share : (n k : ℕ) (l : Lft) → Lends 𝓛 (fsep (Part n k) (fex (IsSome k) (λ _. ftrue))) (Shown n) l
    Lends_share n k l = Lends-first 𝓛 (Part n k) (fex (IsSome k) (λ _. ftrue)) (Shown n) l
        (Lends-both 𝓛 (flft (term n) (fraction k)) (t (term n)) (one (λ q. flft (term n) q)) (held (term n) t) l (Lends_token (term n) (fraction k) l) (Lends_held (term n) l))

    -- a token of κ makes a part of a token of the term, and the value is read as long
    pub shown : (n : ℕ) (κ : Lft) → ent 𝓤 (sem 𝓛 (Shown n κ)) (sem 𝓛 (t κ))
    shown n κ = qed 𝓛 (‵ (Shown n κ) ∷ []) ∵ fsplit ! $ by ! (moves_from 𝓛 t L κ (term n) (term n) (meet_⊑_left (term n) κ))

    -- P is the value in memory, and q a token that is alive meanwhile
    module _ (P : Fml) where
      abbrev pub Out : ℕ → Fml
      Out n = fsep (flent (term n) P) (Part n all_parts)

      pub shares_out : (n : ℕ) (l μ : Lft) (q : Share) → Lends 𝓛 P t l → Incl μ l
          → ent 𝓤 (sep 𝓤 (sem 𝓛 (term_owns n)) (sep 𝓤 (sem 𝓛 P) (A.lft μ q))) (H.⇛ (sep 𝓤 (sem 𝓛 (Out n)) (A.lft μ q)))
      shares_out n l μ q lends inc = qed 𝓛 (‵ (term_owns n) ∷ ‵ P ∷ ‵ (flft μ q) ∷ []) ∵ updating ! $
          move ! (1 ∷ []) $ bor_new ! tt (term n) $ move ! (2 ∷ 3 ∷ []) $ join ! $ move ! (1 ∷ 0 ∷ []) $
          use2 𝓛 (later (‵ (t (term n)) ⊛ ‵ (flft (term n) full_share) ⊛ ‵ (flft μ q)))
          (lends (term n) ((term n, full_share) ∷ (μ, q) ∷ []) (Incl-trans (meet_⊑_right (term n) μ) inc) (meet_⊑_left (term n) μ)) $ await ! tt $ split3 ! $
          -- [what is held; the token; the other token; the lender's right]
          move ! (1 ∷ []) $ use1 𝓛 (‵ (flft (term n) (fraction all_parts))) (is_all 𝓛 n) $ fjoin ! $ move ! (2 ∷ 0 ∷ []) $ fjoin ! $ now ! $ done !

      pub comes_back : (n : ℕ) → ent 𝓤 (sep 𝓤 (A.lft (term n) (fraction all_parts)) (sem 𝓛 (flent (term n) P))) (H.⇛ (sem 𝓛 P))
      comes_back n = qed 𝓛 (‵ (flft (term n) (fraction all_parts)) ∷ ‵ (flent (term n) P) ∷ []) ∵ updating ! $
          use1 𝓛 (‵ (flft (term n) full_share)) (is_whole 𝓛 n) $ lft_end ! tt $ lent_back ! tt $ now ! $ done !

module _ {M : Type 1} {𝓤 : Ura M} (𝓛 : Logic 𝓤) (R : RattleType) (L : RowLaws R) (p : Ptr) (x : R.Denot) where
  -- what can be read isn't at null
  pub lies : (κ : Lft) → ent 𝓤 (sem 𝓛 (lent_at R p x κ)) (sep 𝓤 (fact 𝓤 (InBlock p)) (sem 𝓛 (lent_at R p x κ)))
  lies κ = let t = lent_at R p x in qed 𝓛 (‵ (t κ) ∷ []) ∵ use1 𝓛 (‵ (t κ) ⊛ ‵ (t κ)) (contraction 𝓛 t (lent_at_shr_laws R L p x) κ) $ split ! $
      fsplit ! $ use1 𝓛 (raw (fact 𝓤 (InBlock p))) (in_block_says 𝓛 p) $ move ! (1 ∷ []) $ drop ! $ done !

  -- a share is made of its parts
  pub packed : (n k : ℕ) → IsSome k → ent 𝓤 (sep 𝓤 (sem 𝓛 (flft (term n) (fraction k))) (sem 𝓛 (lent_at R p x (term n)))) (sem 𝓛 (share_owns R p x n k))
  packed n k is = qed 𝓛 (‵ (flft (term n) (fraction k)) ∷ ‵ (lent_at R p x (term n)) ∷ []) ∵ fjoin ! $ nothing ! $ fpack ! (IsSome k) (λ _. ftrue) is $ move ! (1 ∷ 0 ∷ []) $ fjoin ! $ done !
