-- `words` reads the two fields, and hands out the `&` to the words that the `&` to the block holds.
use Rattle.raw_region.proofs.Lemmas.Steps.{refl, sym, ap, subst, List, [], ◌∷◌, ℕ, ◌+◌, ◌*◌, ◌<◌, ◌^◌, arith, length, proved, ftrue, fhide, flft, named, Val, tables, fact, ‵, raw, ◌⊛◌, at_ret, ◌$◌, ◌∵◌, !, qed, done, move, keep, drop, use1, split, join, fsplit, fjoin, feq_i, feq_l, flt_i, flt_l, suffices, agg, enter, of_opd, load, look, stop, fld, no_more, and_then, first, blocks, exec, returns, alloc_all, pass_all, free_all, look_at, get, through, sets, sets_last, env, RefOf, yes, block_of, count_of, InBlock, ShrRef, shr_vals, shr_Tells, plain, slice_val, nothing, heard, Stays, walk_of, stay_dropped, Goes-dropped, ends_at}
use denote.Memory.{hidden_shr}
use denote.Opens.{unhide, hide}
use denote.Struct.Lending.{in_block_says, lent_out}
use Rattle.core.proofs.mem.Facts.{says_two}
use Rattle.std_alloc.proofs.Words.{word_in, word_out, pointer_in, pointer_out}
use Rattle.raw_region.specs.contracts.block.Block.words as f
use Rattle.raw_region.proofs.block.Block.words.Statement.{statement}
use Rattle.raw_region.proofs.block.Block.words.Code as code
use Rattle.raw_region.specs.contracts.block.Block as B
use Rattle.raw_region.proofs.Lemmas.Fields.{Plain, plain_of, shows_at, shows_len}

abbrev stayed : Stays f.ended.signature.params f.ended.kept
stayed = (stay_dropped (RefOf (0 ∷ []) tt (plain (λ _. B.the_row)) (λ _. tt)) yes, tt)

pub words_spec : {M : Type 1} → statement M
words_spec 𝓤 𝓛 𝓜 𝓡 wired =
    let c = f.clauses 𝓛 𝓜.mem 𝓡.returns in let W = walk_of 𝓛 f.ended stayed c in let 𝓣 = tables 𝓤 𝓛.H 𝓜 𝓡 𝓡.env in
    proved 𝓛 f.ended stayed c 𝓜 𝓡 (Goes-dropped 𝓛 1 (RefOf (0 ∷ []) tt (plain (λ _. B.the_row)) (λ _. tt)) yes (λ κs x w. refl), tt)
    f.Key.name code.function (code.unfolded 𝓤 𝓛.H 𝓜 𝓡 wired)
    (λ κs. (shr_vals, tt)) (λ κs. (shr_Tells (named 0) κs.0 B.the_row, tt)) (λ κs qs bounds a _ are.
    let κ = κs.0 in let q = qs.0 in let b = a.0.ref_ptr.0 in let o = a.0.ref_ptr.1 in let d = a.0.now in let ws = d.words in
    let at : ℕ × ℕ = (block_of d.at, count_of d.at) in
    let y : W.Ghost = ((κs, qs, bounds, a, (shr_vals a.0, tt)), tt) in
    qed 𝓛 (((‵ (flft κ q) ⊛ ‵ ftrue) ⊛ ‵ ((ShrRef (named 0) κ B.the_row).own_val a.0 (shr_vals a.0)) ⊛ ‵ ftrue) ∷ ‵ ftrue ∷ []) ∵
    split ! $ split ! $ move ! (2 ∷ []) $ split ! $ keep ! (0 ∷ 2 ∷ []) $ fsplit ! $ drop ! $
    enter ! _ _ _ _ _ $ alloc_all ! (λ l. pass_all ! refl ((tt, tt), tt) $
    use1 𝓛 (‵ (hidden_shr Plain κ (plain_of d) b o) ⊛ ‵ (fhide (B.the_lent d d.at κ))) (lent_out 𝓛 B.struct B.the_codes B.the_heap B.the_lent κ d b o) $ split ! $
    move ! (1 ∷ []) $ unhide ! $ fsplit ! $ flt_l ! (λ most. fsplit ! $ use1 𝓛 (raw (fact 𝓤 (InBlock d.at))) (in_block_says 𝓛 d.at) $ heard ! (InBlock d.at) (λ inside.
    fsplit ! $ feq_l ! (λ long. hide ! $ move ! (1 ∷ 2 ∷ []) $
    -- [the fields; the token; the words]
    first ! $ blocks ! $
    pointer_in ! tt d.at inside b (o + 0) (shows_at 𝓛 κ b o d) (λ _.
    sets ! (of_opd ! (load ! (through ! refl (fld ! refl (stop !))) (look ! 1 refl))) refl (tt, tt) $
    pointer_out ! tt d.at inside b (o + 0) $ move ! (1 ∷ 0 ∷ []) $
    word_in ! tt d.len b (o + 8) (shows_len 𝓛 κ b o d) (λ _ fits.
    sets ! (of_opd ! (load ! (through ! refl (fld ! refl (stop !))) (look ! 1 refl))) refl (tt, record { fits = fits }) $
    word_out ! tt d.len b (o + 8) fits $
    sets_last ! (agg ! (and_then ! (get ! refl) (and_then ! (get ! refl) (no_more !)))) refl (tt, (tt, (record { fits = fits }, tt))) $
    exec ! 𝓣.C 𝓣.Λ (env code.Mir.locals l) code.Mir.t-2 (at_ret _ (W.post y)) $
    sets ! (of_opd ! (get ! refl)) refl (tt, (tt, (record { fits = fits }, tt))) $
    returns ! (look_at ! 0 refl) $ free_all ! refl $ keep ! (2 ∷ 0 ∷ []) $
    flt_i ! (length ws * 8) (2 ^ 63) (omega arith) $ flt_i ! (length ws) (2 ^ 64) (subst (λ k. k < 2 ^ 64) (sym long) fits) $ fjoin ! $
    feq_i ! (List Val) (slice_val at d.len ∷ []) (slice_val at (length ws) ∷ []) (ap (λ k. slice_val at k ∷ []) (sym long)) $ fjoin ! $ fjoin ! $
    suffices ! _ (ends_at 𝓛 f.ended stayed c y (slice_val at d.len) (record { ref_ptr = at; now = ws }) (tt, tt) (tt, tt)) $ says_two ! (refl, long) $
    nothing ! $ nothing ! $ join ! $ nothing ! $ move ! (3 ∷ 0 ∷ []) $ join ! $ done !)))))))
