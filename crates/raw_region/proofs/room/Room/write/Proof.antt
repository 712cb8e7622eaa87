-- `write` copies the words into the room in a loop, and makes a block of it.
use Rattle.raw_region.proofs.Lemmas.Steps.{◌≡◌, refl, sym, ap, subst, List, [], ◌∷◌, ℕ, zero, suc, ◌+◌, ◌-◌, ◌*◌, ◌≤◌, ◌<◌, ◌^◌, arith, length, lit<, proved, Ura, full_share, SProp, id⊢, ftrue, fat, flft, froom, Lft, Share, named, w64, ty_int, ty_array, Val, vptr, vint, tables, fact, Logic, ‵, raw, ◌⊛◌, at_ret, Sq, ◌$◌, ◌∵◌, !, qed, done, move, keep, drop, use0, use1, use2, split, join, fjoin, feq_i, flt_i, rewrite, suffices, agg, whole, enter, of_opd, lit, bin, load, look, init, stop, fld, no_more, and_then, assigns_last, first, blocks, branches, skips, exec, returns, alloc_all, pass_all, free_all, look_at, get, get_in, through, sets, sets_last, env, Array, u64, yes, block_ptr, plain, slice_val, nothing, heard, Stays, walk_of, says, stay_dropped, Goes-dropped, ends_at}
use mathlib.Core.WellFounded.InvImage
use lib.Dec.{ltb→lt, nltb→le}
use lib.ListN.{take, get_or}
use lib.WfN.{lt-wf_rel}
use Rattle.core.proofs.ptr.Rows.{take_all}
use contract.Running.{tables_of}
use mir.Syntax.{Body}
use mir.Val.{vstruct, vcons, vnil}
use prog.Wp.{Env, Out, Wp, WpFn, Tables, at_return, after_seq, after_block, after_turn}
use types.Kit.{Item, any_q, runs, prop, regoal, fsplit, flt_l}
use types.Part.{sub}
use types.Run.{jumps, loops, again, Below}
use types.ByLocal.{holding, forget_but, take_at, give_at}
use denote.ArrayMemory.{Array-whole}
use denote.Builtin.{SliceRefOf}
use denote.Copied.{uint_Copied}
use denote.Index.{row, place_is, elem_out, elem_back, looks_slice, shuts_slice}
use denote.Laws.{Is, shows}
use denote.Memory.{cell_at, part_at}
use denote.Opens.{Shut}
use denote.Plain.{uint_in, uint_vals, uint_Tells}
use denote.RawPtr.{Ptr, lies_at, room_for, in_a_block}
use denote.Shadow.{pure_i}
use denote.Slice.{ShrSlice, shr_slice_vals, shr_slice_Tells}
use Rattle.core.proofs.alloc.Shapes.{after}
use Rattle.core.proofs.alloc.Calls.{Goes-blank}
use Rattle.raw_region.specs.contracts.room.Room.write as f
use Rattle.raw_region.proofs.room.Room.write.Statement.{statement}
use Rattle.raw_region.proofs.room.Room.write.Code as code
use Rattle.raw_region.specs.contracts.block.Block as B
use Rattle.raw_region.specs.contracts.room.Room as R
use Rattle.raw_region.specs.Block.{Deed, right}
use Rattle.raw_region.proofs.room.Room.TheLaws.{lowers}
use Rattle.raw_region.proofs.Lemmas.Fields.{Plain, plain_of}
use Rattle.raw_region.proofs.Lemmas.Heap.{words_more}

abbrev stayed : Stays f.ended.signature.params f.ended.kept
stayed = (stay_dropped (plain (λ _. R.the_row)) yes, (stay_dropped (SliceRefOf (0 ∷ []) tt (plain (λ _. u64)) (λ _. tt)) yes, tt))

-- the loop: i of the n words xs at (sb, so) are written to (b, o)
module _ {M : Type 1} {𝓤 : Ura M} (𝓛 : Logic 𝓤) (𝓣 : Tables 𝓤 𝓛.H) (P : Val → SProp 𝓤) (rest : Body) (deed : Deed) (n b o : ℕ) (small : n * 8 < 2 ^ 63) (xs : List ℕ) (long : length xs ≡ n)
    (sb so : ℕ) (κ : Lft) (q p : Share) (l : ℕ → ℕ) where
  open 𝓛 use {H}

  abbrev En : Env 𝓤 H
  En = env code.Mir.locals l

  abbrev Written : Type 0
  Written = (i : ℕ) × (i ≤ n)

  abbrev Nearer : Written → Written → Type 0
  Nearer t u = n - t.0 < n - u.0

  abbrev Now : Written → List (Item 𝓤)
  Now t = ‵ (row u64 full_share (take t.0 xs) b o) ∷ ‵ (froom (ty_array (ty_int w64) (n - t.0)) b (t.0 * 8 + o)) ∷ ‵ (right deed) ∷ ‵ (row u64 p xs sb so) ∷ Shut 𝓛 κ q (row u64 p xs sb so)
      ∷ holding 𝓛 En ((1, vstruct (vcons (vptr b o) (vcons (vint w64 n) vnil))) ∷ (2, slice_val (sb, so) (length xs)) ∷ (3, vptr b o) ∷ (4, vint w64 n) ∷ (5, vint w64 t.0) ∷ [])

  abbrev Turned : Written → Out → SProp 𝓤
  Turned t = after_turn 𝓤 H (Below 𝓛 Nearer Now t) (after_block 𝓤 H (after_seq 𝓤 H (Wp 𝓤 H 𝓣.C 𝓣.Λ En rest (at_return 𝓤 H En P)) (at_return 𝓤 H En P)))

  turns : ((t : Written) → t.0 ≡ n → Sq 𝓛 (Now t) (runs 𝓣.C 𝓣.Λ En rest (at_ret En P))) → (t : Written) → Sq 𝓛 (Now t) (runs 𝓣.C 𝓣.Λ En code.Mir.turn-1 (any_q (Turned t)))
  unfolding after_turn
  turns finish t =
      let i : ℕ = t.0 in let le = t.1 in
      sets ! (bin ! (get ! refl) (get ! refl) tt) refl (tt, tt) $ first ! $ branches ! (get ! refl)
      (λ less. let h : i < n = ltb→lt i n less in
      let inside : i < length xs = omega arith in let x : ℕ = get_or xs i 0 in
      let far : i * 8 < 2 ^ 64 = omega arith in let next : i + 1 < 2 ^ 64 = omega arith in
      let left : n - i ≡ suc (n - suc i) = omega arith in let behind : i * 8 + o + 8 ≡ suc i * 8 + o = omega arith in let one : i + 1 ≡ suc i = omega arith in
      skips ! $ exec ! 𝓣.C 𝓣.Λ En (after 2 code.Mir.turn-1) (any_q (Turned t)) $ first ! $ blocks ! $
      sets ! (bin ! (get ! refl) (lit ! tt) (record { fits = far })) refl (tt, record { fits = far }) $
      sets ! (bin ! (get ! refl) (get ! refl) tt) refl (tt, tt) $
      sets ! (bin ! (get ! refl) (lit ! tt) (record { fits = far })) refl (tt, record { fits = far }) $
      sets ! (bin ! (get_in ! (fld ! refl (stop !)) (sub ! 0 refl (whole !))) (get ! refl) tt) refl (tt, tt) $
      move ! (3 ∷ []) $ elem_out ! u64 (Is u64) (shows 𝓛 u64) (uint_vals w64) (uint_Tells w64) p xs i 0 sb so inside (λ g.
      rewrite ! 0 (λ (k : ℕ). ‵ (cell_at p u64.mir (uint_vals w64 x) sb k)) (place_is 8 so i) refl $
      sets ! (of_opd ! (load ! (through ! refl (stop !)) (look ! 0 refl))) refl (tt, record { fits = g.1 }) $
      rewrite ! 0 (λ (k : ℕ). ‵ (cell_at p u64.mir (uint_vals w64 x) sb k)) (sym (place_is 8 so i)) refl $
      elem_back ! u64 p xs i 0 (uint_vals w64 x) sb so inside $
      -- [the words to copy; the written ones; the room; the right; what shuts the slice]
      move ! (2 ∷ []) $ rewrite ! 0 (λ (m : ℕ). ‵ (froom (ty_array (ty_int w64) m) b (i * 8 + o))) left refl $
      use1 𝓛 (‵ (froom (ty_int w64) b (i * 8 + o)) ⊛ ‵ (froom (ty_array (ty_int w64) (n - suc i)) b (i * 8 + o + 8))) (𝓛.laws.room_uncons (ty_int w64) (n - suc i) b (i * 8 + o)) $ split ! $
      assigns_last ! (of_opd ! (get ! refl)) (through ! refl (stop !)) (init ! 0 refl (tt, record { fits = g.1 })) $
      exec ! 𝓣.C 𝓣.Λ En (after 3 code.Mir.turn-1) (any_q (Turned t)) $ sets_last ! (bin ! (get ! refl) (lit ! tt) (record { fits = next })) refl (tt, record { fits = next }) $
      -- [the new word; the room after it; the words to copy; the written ones; the right; what shuts the slice]
      use1 𝓛 (‵ (part_at u64 full_share x b (i * 8 + o))) (uint_in 𝓛 full_share w64 x b (i * 8 + o)) $ move ! (3 ∷ 0 ∷ []) $
      use2 𝓛 (‵ (row u64 full_share (take (suc i) xs) b o)) (words_more 𝓛 xs i b o inside) $
      rewrite ! 1 (λ (k : ℕ). ‵ (froom (ty_array (ty_int w64) (n - suc i)) b k)) behind refl $ move ! (0 ∷ 1 ∷ 3 ∷ 2 ∷ []) $
      forget_but ! En (1 ∷ 2 ∷ 3 ∷ 4 ∷ 5 ∷ []) refl $ take_at ! 5 $ rewrite ! 0 (λ (k : ℕ). ‵ (fat full_share (ty_int w64) (l 5) zero (vint w64 k))) one refl $ give_at ! 5 $
      again ! Nearer Now t (suc i, omega arith) (omega arith)))
      (λ over. let ge = nltb→le i n over in
      jumps ! $ exec ! 𝓣.C 𝓣.Λ En rest (at_ret En P) $ forget_but ! En (1 ∷ 2 ∷ 3 ∷ 4 ∷ 5 ∷ []) refl $ finish t (omega arith))

pub write_spec : {M : Type 1} → statement M
unfolding tables_of
write_spec 𝓤 𝓛 𝓜 𝓡 wired =
    let c = f.clauses 𝓛 𝓜.mem 𝓡.returns in let W = walk_of 𝓛 f.ended stayed c in let 𝓣 = tables 𝓤 𝓛.H 𝓜 𝓡 𝓡.env in let 𝓣' = tables_of 𝓤 𝓛.H 𝓜 𝓣 in
    proved 𝓛 f.ended stayed c 𝓜 𝓡 (Goes-blank 𝓛 1 (plain (λ _. R.the_row)) yes (λ κs x w. tt), (Goes-dropped 𝓛 1 (SliceRefOf (0 ∷ []) tt (plain (λ _. u64)) (λ _. tt)) yes (λ κs x w. refl), tt))
    f.Key.name code.function (code.unfolded 𝓤 𝓛.H 𝓜 𝓡 wired)
    (λ κs. ((λ d. lowers.lowered d ∷ []), (shr_slice_vals, tt))) (λ κs. (lowers.val_is, (shr_slice_Tells (named 0) κs.0 u64, tt))) (λ κs qs bounds a _ are.
    let κ = κs.0 in let q = qs.0 in let d = a.0 in let n = d.len in let s = a.1.0 in let xs : List ℕ = s.now in let sb = s.ref_ptr.0 in let so = s.ref_ptr.1 in let fn = are.1.0.0.1.0 in
    let y : W.Ghost = ((κs, qs, bounds, a, (lowers.lowered d ∷ [], (shr_slice_vals s, tt))), tt) in
    qed 𝓛 (((‵ (flft κ q) ⊛ ‵ ftrue) ⊛ ‵ (R.the_row.own_val d (lowers.lowered d ∷ [])) ⊛ ‵ ((ShrSlice (named 0) κ u64).own_val s (shr_slice_vals s)) ⊛ ‵ ftrue) ∷ raw (fact 𝓤 (length xs ≡ n)) ∷ []) ∵
    move ! (1 ∷ []) $ heard ! (length xs ≡ n) (λ long. split ! $ split ! $ move ! (2 ∷ []) $ split ! $ move ! (1 ∷ []) $ split ! $ keep ! (2 ∷ 0 ∷ 3 ∷ []) $
    fsplit ! $ drop ! $ fsplit ! $ flt_l ! (λ most. fsplit ! $
    in_a_block ! d.at (λ p. room_for (ty_array (ty_int w64) n) p) (id⊢ 𝓤 _) (λ b o e.
    let small : n * 8 < 2 ^ 63 = omega arith in let fits : n < 2 ^ 64 = omega arith in
    let made : B.the_row.Denot = record { at = block_ptr b o; len = n; words = xs; deed = d.deed } in let cell : Val = vstruct (vcons (vptr b o) (vcons (vint w64 n) vnil)) in
    let all : n ≡ n - 0 = omega arith in let here : o ≡ 0 * 8 + o = omega arith in
    move ! (2 ∷ []) $ fsplit ! $ keep ! (1 ∷ 4 ∷ 2 ∷ 3 ∷ []) $
    regoal ! (λ (p : Ptr). prop (WpFn 𝓤 𝓛.H 𝓣.C 𝓣.Λ code.function (lowers.lowered (record d { at = p }) ∷ slice_val (sb, so) (length xs) ∷ []) (W.post y))) e refl $
    enter ! _ _ _ _ _ $ alloc_all ! (λ l. pass_all ! refl ((tt, (tt, (record { fits = fits }, tt))), ((tt, (tt, (record { fits = fn }, tt))), tt)) $
    looks_slice ! tt u64 (uint_Copied 𝓛 w64) xs sb so (λ p. move ! (2 ∷ []) $ drop ! $ move ! (2 ∷ 3 ∷ []) $
    -- [the room; the right; the words to copy; what shuts the slice]
    sets ! (of_opd ! (get_in ! (fld ! refl (stop !)) (sub ! 0 refl (whole !)))) refl (tt, tt) $
    sets ! (of_opd ! (get_in ! (fld ! refl (stop !)) (sub ! 1 refl (whole !)))) refl (tt, record { fits = fits }) $
    sets ! (of_opd ! (lit ! tt)) refl (tt, record { fits = lit< tt }) $
    rewrite ! 0 (λ (m : ℕ). ‵ (froom (ty_array (ty_int w64) m) b o)) all refl $ rewrite ! 0 (λ (k : ℕ). ‵ (froom (ty_array (ty_int w64) (n - 0)) b k)) here refl $
    use0 𝓛 (‵ (row u64 full_share [] b o)) (id⊢ 𝓤 _) $
    first ! $ blocks ! $ loops ! 𝓣' (Nearer 𝓛 𝓣' (W.post y) code.Mir.t-5 d.deed n b o small xs long sb so κ q p l) (InvImage.wf (λ (t : (i : ℕ) × (i ≤ n)). n - t.0) lt-wf_rel.wf) (Now 𝓛 𝓣' (W.post y) code.Mir.t-5 d.deed n b o small xs long sb so κ q p l)
    (turns 𝓛 𝓣' (W.post y) code.Mir.t-5 d.deed n b o small xs long sb so κ q p l (λ t full.
    rewrite ! 0 (λ (k : ℕ). ‵ (row u64 full_share (take k xs) b o)) full refl $ rewrite ! 0 (λ (ws : List ℕ). ‵ (row u64 full_share ws b o)) (subst (λ (k : ℕ). take k xs ≡ xs) long (take_all xs)) refl $ move ! (1 ∷ []) $ drop ! $
    move ! (2 ∷ 3 ∷ []) $ shuts_slice ! tt u64 p xs sb so $
    -- [the token; the words; the right]
    sets ! (agg ! (and_then ! (get ! refl) (and_then ! (get ! refl) (no_more !)))) refl (tt, (tt, (record { fits = fits }, tt))) $
    returns ! (look_at ! 0 refl) $ free_all ! refl $ keep ! (1 ∷ 2 ∷ 0 ∷ []) $
    feq_i ! ℕ (length xs) n long $ fjoin ! $ use1 𝓛 (‵ (lies_at (Array u64 n) full_share (block_ptr b o) xs)) (Array-whole 𝓛 u64 full_share n xs b o) $ fjoin ! $
    flt_i ! n (2 ^ 60) most $ fjoin ! $
    pure_i ! (Plain.own_val (plain_of made) (cell ∷ [])) (λ vss. (tt, (tt, ((tt, tt), tt)))) ((vptr b o ∷ [], (vint w64 n ∷ [], tt)), (refl, (refl, ((refl, fits), tt)))) $ fjoin ! $
    suffices ! _ (ends_at 𝓛 f.ended stayed c y cell made (tt, (tt, tt)) (tt, (tt, tt))) $ says ! (ap (λ (p : Ptr). record d { at = p }) (sym e), refl) $
    nothing ! $ nothing ! $ join ! $ nothing ! $ join ! $ nothing ! $ move ! (3 ∷ 0 ∷ []) $ join ! $ done !)) (0, omega arith)))))))
