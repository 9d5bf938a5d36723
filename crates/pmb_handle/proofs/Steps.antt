-- The names that the proofs of this crate cite, in one place.
pub use Rattle.std.proofs.Common.{◌≡◌, ℕ, List, [], ◌∷◌, refl, ap, subst, sym, lit<}
pub use Rattle.std.proofs.raw_atomic.Walks.{proved}
pub use Rattle.std.proofs.RcSteps.{Ptr-Good, Some-of, none_of, some_Good}
pub use Rattle.std.specs.declared.option.Option.{Option}
pub use Rattle.std.specs.declared.option.Option.TheVariants.{None, Some}
pub use Rattle.std.specs.declared.alloc.Global.{Global}
pub use Rattle.std.specs.contracts.impls.GlobalAllocator.TheImpl.{ghosts}
pub use base.Fraction.{full_share}
pub use base.Logic.{emp, id⊢}
pub use base.Fml.{ftrue, flft}
pub use mir.Syntax.{a_type, dcons, dnil}
pub use mir.MapTy.{inst_fn}
pub use mir.Val.{Val, vcons, vnil}
pub use prog.Wp.{WpFn}
pub use contract.Monad.{fact, fact_i}
pub use contract.BorrowLft.{◌⊑◌}
pub use contract.Running.{tables}
pub use types.Match.{live}
pub use types.Part.{agg, sub, whole}
pub use types.Kit.{‵, raw, ◌⊛◌, some, later, prop, at_ret, ◌$◌, ◌∵◌, !, qed, done, move, keep, drop, use0, use1, use2}
pub use types.Kit.{split, split3, join, fsplit, fjoin, feq_i, pick, await, rewrite, regoal, suffices}
pub use types.Run.{enter, stop, fld, of_opd, bin, lit, no_more, and_then, first, blocks, branches, skips, exec}
pub use types.Run.{returns, returns_within}
pub use types.ByLocal.{alloc_all, pass_all, free_all, look_at, get, get_in, sets, lands_as, lands_last, env}
pub use denote.Exit.{yes, no}
pub use denote.Laws.{Is, shows}
pub use denote.RattleType.{RattleType}
pub use denote.RawPtr.{Ptr, block_ptr, null_ptr, ptr_val, tests_null}
pub use denote.Param.{param, bounded, layouts}
pub use denote.Param.Laws.{param_laws}
pub use denote.Signature.{plain}
pub use denote.Steps.{nothing, heard, peeks, only}
pub use denote.Triple.Call.{calls_at, calls_at_last}
pub use denote.Triple.Clauses.{Lasts, lasts}
pub use denote.Triple.Spec.{triple_of}
pub use denote.Triple.Table.{framed}
pub use denote.Triple.Walked.{Stays, walk_of, says, stay_dropped, Goes-dropped, ends_at}
