-- The names that the walks cite.
pub use Rattle.std.proofs.Common.{◌≡◌, ℕ, ◌+◌, ◌-◌, ◌*◌, ◌^◌, ◌<◌, ◌≤◌, T, List, [], ◌∷◌, ◌++◌, refl, sym, ap, subst, ◌∙◌, arith, w64, length}
pub use Rattle.std.proofs.raw_atomic.Walks.{proved, proved_at}
pub use Rattle.core.proofs.alloc.Shapes.{after}
pub use Rattle.core.proofs.mem.Facts.{says_two, says_three}
pub use base.Fml.{Fml, Lft, ftrue, fsep, fex, flft}
pub use base.Logic.{ent, sep, emp, id⊢}
pub use contract.BorrowLft.{◌⊑◌, ⊑_static}
pub use contract.Monad.{fact, fact_i}
pub use contract.Running.{tables}
pub use mir.MapTy.{inst_fn}
pub use mir.Syntax.{a_type, dcons, dnil, named, tcons, tnil, ty_ptr, ty_struct}
pub use mir.Val.{Val, WT, has_ty, of_list, vcons, vint, vnil, vptr, vstruct, vunit}
pub use prog.Wp.{WpFn}
pub use types.Kit.{Item, ‵, raw, ◌⊛◌, some, later, prop, at_ret, ◌$◌, ◌∵◌, !, qed, by, done, move, keep, drop, use0, use1, use2, split, split3, join, fsplit, fsplit3, fjoin, fjoin3, feq_i, feq_l, flt_i, fpick, fpack, frame, pick, await, regoal, rewrite, suffices}
pub use types.Logic.{Logic, sem}
pub use types.Part.{agg, look_in, store_in, sub, whole}
pub use types.Run.{and_then, bin, blocks, enter, exec, first, fld, lit, load, no_more, of_opd, returns, size_lit, stop, unit_lit}
pub use types.ByLocal.{alloc_all, env, free_all, get, get_in, is, lands_as, lands_last, look_at, pass_all, sets, through}
pub use types.Run.{assigns}
pub use denote.Builtin.{RawPtr, RefOf, usize}
pub use denote.Exit.{no, yes}
pub use denote.Laws.{Is, shows}
pub use denote.Memory.{cell_at}
pub use denote.Param.{bounded, layouts, param}
pub use denote.Param.Laws.{Laws, param_laws}
pub use denote.Plain.{uint_Tells, uint_vals}
pub use denote.RattleType.{RattleType, owns}
pub use denote.RawPtr.{InBlock, Ptr, at_block, block_of, block_ptr, count_of, in_a_block, lies_at, null_ptr, ptr_val, rawptr_Tells, rawptr_vals, ◌+ₚ◌}
pub use denote.Ref.{mut_Tells, mut_vals, shr_Tells, shr_vals}
pub use denote.Signature.{plain, types_at}
pub use denote.Steps.{closes, heard, nothing, only, opens, peeks}
pub use denote.Triple.Call.{calls_at, calls_at_last}
pub use denote.Triple.Clauses.{Lasts, lasts}
pub use denote.Triple.Spec.{triple_of}
pub use denote.Triple.Table.{framed}
pub use denote.Triple.Walked.{Goes-dropped, Goes-ref, Stays, ends_at, says, stay_dropped, stay_ref, walk_of}
