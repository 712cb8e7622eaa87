-- The names that the walks cite.
pub use Rattle.std.proofs.Common.{◌≡◌, ℕ, ◌+◌, ◌-◌, ◌^◌, ◌<◌, ◌≤◌, T, List, [], ◌∷◌, ◌++◌, refl, sym, ap, subst, ◌∙◌, arith}
pub use Rattle.std.proofs.raw_atomic.Walks.{proved, proved_at, leaves}
pub use Rattle.core.proofs.alloc.Shapes.{after}
pub use Rattle.core.proofs.mem.Facts.{says_two, says_three}
pub use Rattle.core.proofs.slots.Bodies.{says_four}
pub use base.Fraction.{full_share}
pub use base.Fml.{Fml, Lft, ftrue, fsep, fex, fhide, flft, flent}
pub use base.Logic.{SProp, ent, sep, emp, id⊢}
pub use contract.BorrowLft.{◌⊑◌}
pub use contract.Monad.{fact, fact_i}
pub use contract.Running.{tables}
pub use mir.MapTy.{inst_fn}
pub use mir.Syntax.{a_type, dcons, dnil, named}
pub use mir.Val.{Val, vptr, vunit}
pub use types.Kit.{Item, ‵, raw, ◌⊛◌, some, later, at_ret, ◌$◌, ◌∵◌, !, qed, by, done, move, keep, drop, use0, use1, use2, split, split3, join, fsplit, fsplit3, fjoin, fjoin3, feq_i, feq_l, fpick, fpack, pick, await, rewrite, suffices}
pub use types.Logic.{Logic, sem}
pub use types.Part.{agg, look_in, sub, whole}
pub use types.Run.{addr, and_then, blocks, enter, exec, first, fld, hop, load, look, no_more, of_opd, returns, stop, unit_lit}
pub use types.ByLocal.{alloc_all, env, free_all, get, get_in, lands_as, lands_last, look_at, pass_all, sets, sets_last, through}
pub use denote.Builtin.{RawPtr, RefOf}
pub use denote.Exit.{no, yes}
pub use denote.Laws.{Is, shows}
pub use denote.Memory.{cell_at, hidden_shr}
pub use denote.Opens.{hide, unhide}
pub use denote.Param.{bounded, layouts, param}
pub use denote.Param.Laws.{Laws, param_laws}
pub use denote.RattleType.{RattleType, owns}
pub use denote.RawPtr.{InBlock, Ptr, at_block, block_of, block_ptr, count_of, in_a_block, ptr_val}
pub use denote.Ref.{mut_Tells, mut_vals, shr_Tells, shr_vals}
pub use denote.Signature.{plain, types_at}
pub use denote.Steps.{closes, heard, nothing, only, opens, peeks}
pub use denote.Struct.Lending.{in_block_says, lent_at, lent_at_shr_laws, lent_out}
pub use denote.Triple.Walked.{Goes-dropped, Goes-ref, Stays, ends_at, says, stay_dropped, stay_ref, walk_of}
