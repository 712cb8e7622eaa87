-- `words_mut` opens the block, lends its words, and leaves the rest of the block to whoever ends that borrow.
use Rattle.raw_region.proofs.Lemmas.Steps.{◌≡◌, refl, sym, ap, ◌∙◌, List, [], ◌∷◌, ℕ, ◌*◌, ◌<◌, ◌^◌, arith, length, proved, Ura, full_share, ent, sep, id⊢, GName, Fml, ftrue, fsep, flft, named, Val, tables, Logic, sem, ‵, raw, ◌⊛◌, some, later, at_ret, ◌$◌, ◌∵◌, !, qed, done, move, keep, use1, split, join, fsplit, fsplit3, fjoin, fpack, feq_i, feq_l, flt_i, flt_l, pick, await, rewrite, suffices, frame, group, sub, whole, look_in, agg, enter, of_opd, load, stop, fld, no_more, and_then, first, blocks, exec, returns, alloc_all, pass_all, free_all, look_at, get, through, sets, sets_last, env, Array, u64, no, Ptr, block_ptr, in_a_block, MutRef, mut_vals, mut_Tells, plain, mut_ref_to, MutSlice, slice_val, nothing, Stays, walk_of, says, stay_dropped, Goes-spent_ref, ends_at}
use denote.ArrayMemory.{Array-apart, Array-whole}
use denote.FollowSlice.{Elements, lends_Elements}
use denote.Follow.{follows}
use denote.Index.{row, whole_in, whole_out}
use denote.Ref.{MutBor}
use denote.Laws.{shows}
use denote.Memory.{cell_at, mem, part_of}
use denote.RawPtr.{lies_at}
use denote.Steps.{opens, peeks}
use types.SemTy.{cells}
use Rattle.raw_region.specs.Block.{right}
use Rattle.raw_region.specs.BlockLending.{block_with}
use Rattle.raw_region.specs.contracts.block.Block.words_mut as f
use Rattle.raw_region.proofs.block.Block.words_mut.Statement.{statement}
use Rattle.raw_region.proofs.block.Block.words_mut.Code as code
use Rattle.raw_region.specs.contracts.block.Block as B
use Rattle.raw_region.proofs.block.Block.TheLaws.{lowers}
use Rattle.raw_region.proofs.Lemmas.Fields.{Plain, plain_of}

abbrev stayed : Stays f.ended.signature.params f.ended.kept
stayed = (stay_dropped (mut_ref_to (0 ∷ []) tt (plain (λ _. B.the_row))) no, tt)

-- the block but for its words: the right to free them, the fields, and the cell that holds these
abbrev Rest : B.the_row.Denot → List Val → ℕ → ℕ → Fml
Rest d us b o = fsep (right d.deed) (fsep (Plain.own_val (plain_of d) us) (cell_at full_share B.the_row.mir us b o))

-- and with as many words again it is a block of them
back : {M : Type 1} {𝓤 : Ura M} (𝓛 : Logic 𝓤) (d : B.the_row.Denot) (us : List Val) (b o wb wo : ℕ) → d.at ≡ block_ptr wb wo → d.len < 2 ^ 60 → length d.words ≡ d.len
    → (ws : List ℕ) → length ws ≡ length d.words → ent 𝓤 (sep 𝓤 (sem 𝓛 (cells (mem u64) ws wb wo)) (sem 𝓛 (Rest d us b o))) (sem 𝓛 ((mem B.the_row).own_at (block_with d ws) b o))
unfolding part_of
back 𝓛 d us b o wb wo e most long ws same =
    qed 𝓛 (‵ (cells (mem u64) ws wb wo) ∷ ‵ (Rest d us b o) ∷ []) ∵ use1 𝓛 (‵ (row u64 full_share ws wb wo)) (whole_out 𝓛 u64 ws wb wo) $
    feq_i ! ℕ (length ws) d.len (same ∙ long) $ fjoin ! $ use1 𝓛 (‵ (lies_at (Array u64 d.len) full_share (block_ptr wb wo) ws)) (Array-whole 𝓛 u64 full_share d.len ws wb wo) $
    rewrite ! 0 (λ (p : Ptr). ‵ (lies_at (Array u64 d.len) full_share p ws)) (sym e) refl $
    move ! (1 ∷ []) $ fsplit3 ! $ move ! (3 ∷ 0 ∷ []) $ fjoin ! $ flt_i ! d.len (2 ^ 60) most $ fjoin ! $ move ! (1 ∷ 0 ∷ []) $ fjoin ! $
    move ! (1 ∷ 0 ∷ []) $ fjoin ! $ fpack ! (List Val) (λ vs. fsep (cell_at full_share B.the_row.mir vs b o) (B.the_row.own_val (block_with d ws) vs)) us $ done !

pub words_mut_spec : {M : Type 1} → statement M
words_mut_spec 𝓤 𝓛 𝓜 𝓡 wired =
    let c = f.clauses 𝓛 𝓜.mem 𝓡.returns in let W = walk_of 𝓛 f.ended stayed c in let 𝓣 = tables 𝓤 𝓛.H 𝓜 𝓡 𝓡.env in
    proved 𝓛 f.ended stayed c 𝓜 𝓡 (Goes-spent_ref 𝓛 1 (0 ∷ []) tt (plain (λ _. B.the_row)), tt)
    f.Key.name code.function (code.unfolded 𝓤 𝓛.H 𝓜 𝓡 wired)
    (λ κs. (mut_vals, tt)) (λ κs. (mut_Tells (named 0) κs.0 B.the_row, tt)) (λ κs qs bounds a _ are.
    let κ = κs.0 in let q = qs.0 in let b = a.0.ref_ptr.0 in let o = a.0.ref_ptr.1 in let d = a.0.now in let γ = a.0.ghost_name in let ws = d.words in
    let y : W.Ghost = ((κs, qs, bounds, a, (mut_vals a.0, tt)), tt) in
    qed 𝓛 (((‵ (flft κ q) ⊛ ‵ ftrue) ⊛ ‵ ((MutRef (named 0) κ B.the_row).own_val a.0 (mut_vals a.0)) ⊛ ‵ ftrue) ∷ ‵ ftrue ∷ []) ∵
    split ! $ split ! $ move ! (2 ∷ []) $ split ! $ keep ! (0 ∷ 2 ∷ []) $
    enter ! _ _ _ _ _ $ alloc_all ! (λ l. pass_all ! refl ((tt, tt), tt) $
    fsplit3 ! $ move ! (1 ∷ 2 ∷ 3 ∷ []) $ opens ! tt B.the_row b o (λ us.
    move ! (1 ∷ []) $ peeks ! B.the_row _ (shows 𝓛 B.the_row) d us (λ is. fsplit ! $ move ! (1 ∷ []) $ fsplit ! $ flt_l ! (λ most. fsplit ! $
    in_a_block ! d.at (λ p. lies_at (Array u64 d.len) full_share p ws) (id⊢ 𝓤 _) (λ wb wo e.
    use1 𝓛 (‵ (fsep _ (row u64 full_share ws wb wo))) (Array-apart 𝓛 u64 full_share tt d.len ws wb wo) $ fsplit ! $ feq_l ! (λ long.
    let fits : d.len < 2 ^ 64 = omega arith in
    let word = lowers.val_is d us is ∙ ap (λ (p : Ptr). lowers.lowered (record d { at = p }) ∷ []) e in
    let Cell = λ (vs : List Val). ‵ (cell_at full_share B.the_row.mir vs b o) in
    rewrite ! 3 Cell word refl $
    -- [the words; the right to free them; the fields; the cell; the open borrow, in three entries]
    first ! $ blocks ! $
    sets ! (of_opd ! (load ! (through ! refl (fld ! refl (stop !))) (look_in ! 3 (sub ! 0 refl (whole !))))) refl (tt, tt) $
    sets ! (of_opd ! (load ! (through ! refl (fld ! refl (stop !))) (look_in ! 3 (sub ! 1 refl (whole !))))) refl (tt, record { fits = fits }) $
    sets_last ! (agg ! (and_then ! (get ! refl) (and_then ! (get ! refl) (no_more !)))) refl (tt, (tt, (record { fits = fits }, tt))) $
    exec ! 𝓣.C 𝓣.Λ (env code.Mir.locals l) code.Mir.t-2 (at_ret _ (W.post y)) $
    sets ! (of_opd ! (get ! refl)) refl (tt, (tt, (record { fits = fits }, tt))) $
    rewrite ! 3 Cell (sym word) refl $
    use1 𝓛 (‵ (cells (mem u64) ws wb wo)) (whole_in 𝓛 u64 ws wb wo) $
    move ! (2 ∷ 3 ∷ []) $ fjoin ! $ move ! (2 ∷ 0 ∷ []) $ fjoin ! $ move ! (2 ∷ 3 ∷ 4 ∷ 1 ∷ 0 ∷ []) $ group ! 5 $
    let room : (length ws < 2 ^ 64) × (length ws * 8 < 2 ^ 63) = (omega arith, omega arith) in
    let away = back 𝓛 d us b o wb wo e most long in let code_of = B.the_row.coded.code d in
    use1 𝓛 (later (some (λ (γ' : GName). raw (Elements 𝓛 B.the_row u64 (block_with d) (named 0) κ q b o wb wo γ ws room (sem 𝓛 (Rest d us b o)) away γ'))))
    (lends_Elements 𝓛 B.the_row u64 (block_with d) (named 0) κ q b o wb wo γ ws room (sem 𝓛 (Rest d us b o)) away code_of code_of) $ await ! tt $ pick ! (λ γ'.
    returns ! (look_at ! 0 refl) $ free_all ! refl $ keep ! (0 ∷ []) $
    let at : ℕ × ℕ = (wb, wo) in let lent : MutBor (List ℕ) = record { ref_ptr = at; ghost_name = γ'; now = ws } in
    let Slice = λ (n : ℕ). (MutSlice (named 0) κ u64).own_val lent (slice_val at n ∷ []) in
    use1 𝓛 (‵ (Slice (length ws)) ⊛ ‵ (flft κ q) ⊛ ‵ (follows B.the_row (Array u64 0) γ γ' (block_with d))) (id⊢ 𝓤 _) $ split ! $ move ! (1 ∷ []) $ split ! $ move ! (2 ∷ []) $
    rewrite ! 0 (λ (n : ℕ). ‵ (Slice n)) long refl $
    -- [the slice; the token; what the block follows]
    suffices ! _ (ends_at 𝓛 f.ended stayed c y (slice_val at d.len) lent (tt, tt) (tt, tt)) $
    nothing ! $ nothing ! $ join ! $ nothing ! $ move ! (3 ∷ 0 ∷ []) $ join ! $ group ! 3 $ frame ! $ says ! refl $ done !))))))))
