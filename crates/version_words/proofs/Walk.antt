-- What walks over tokens cite, passed on from one place.
pub use Rattle.std.proofs.Common.{◌≡◌, ℕ, zero, suc, ◌+◌, ◌<◌, ◌≤◌, Bool, true, false, List, [], ◌∷◌, ◌++◌, length, sym, refl, ap, ◌∙◌, subst, arith, lit<, w64, None, Some}
pub use mir.Syntax.{named}
pub use mir.Val.{Val, vptr, vint}
pub use base.Logic.{SProp, ent, sep, wand, emp, id⊢, via}
pub use base.Fml.{Fml, ftrue, fsep, fex, feq, flft}
pub use types.Logic.{sem}
pub use types.Kit.{‵, raw, ◌⊛◌, some, given, later, mean, ◌$◌, ◌∵◌, !, qed, by, move, keep, drop, split, join, group, fsplit, fsplit3, fjoin, fjoin3, fpick, fpack, pick, learn, use0, use1, use2, use3, await, rewrite, done}
pub use types.Run.{stop, fld, of_opd, no_more, and_then, returns, enter}
pub use types.ByLocal.{alloc_all, pass_all, free_all, look_at, get, get_in, sets, env}
pub use types.Part.{agg, sub, whole}
pub use contract.Monad.{fact, fact_i}
pub use contract.Running.{tables}
pub use denote.Exit.{yes, no}
pub use denote.RattleType.{RattleType, owns}
pub use denote.Signature.{types_at, plain}
pub use denote.Builtin.{RefOf, u64, unit}
pub use denote.Ref.{shr_vals, shr_Tells}
pub use denote.Plain.{uint_vals, uint_Tells}
pub use denote.Steps.{nothing}
pub use denote.Struct.Tuple.{Tuple}
pub use denote.Triple.Walked.{Stays, stay_dropped, walk_of, Goes-dropped}
pub use Rattle.logbook.proofs.Walks.{proved}
pub use Rattle.logbook.proofs.Fields.{token, Token, token_told, token_made, ends}
pub use mir.Val.{vunit}
pub use types.Kit.{feq_i}
pub use types.Run.{unit_lit}
pub use denote.Ref.{mut_vals, mut_Tells}
pub use denote.Steps.{opens, closes}
pub use denote.Triple.Walked.{stay_ref, Goes-ref}
pub use base.Fml.{fhide}
pub use denote.Memory.{hidden_shr}
pub use denote.Opens.{unhide}
pub use denote.Struct.Lending.{lent_out}
pub use mir.Syntax.{a_type, dcons, dnil}
pub use mir.MapTy.{inst_fn}
pub use denote.Param.{param, bounded}
