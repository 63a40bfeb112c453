-- What the walks share of functions whose result has nothing but ghost fields. Assumes `Logic`.
use seplogic.Ra.Ura.{Ura}
use mir.Val.{vstruct, vnil}
use types.Logic.{Logic}
use types.Kit.{Goal, Step, step, Item, fpack, feq_i}
use denote.RattleType.{RattleType, Valss}
use denote.Struct.Struct.{Struct, within}
pub use Rattle.std.proofs.Common.{◌++◌, List, [], ◌∷◌, refl}
pub use Rattle.std.proofs.raw_atomic.Walks.{proved_at}
pub use mir.Val.{Val, vptr}
pub use prog.Wp.{WpFn}
pub use contract.Running.{tables}
pub use types.Kit.{‵, raw, ◌⊛◌, prop, ◌$◌, ◌∵◌, !, qed, move, keep, drop, split, fsplit, fjoin, feq_l, regoal, suffices, done}
pub use types.Part.{agg}
pub use types.Run.{enter, returns, no_more}
pub use types.ByLocal.{alloc_all, pass_all, free_all, look_at, sets}
pub use denote.Exit.{yes}
pub use denote.RattleType.{owns}
pub use denote.Builtin.{RefOf}
pub use denote.Signature.{plain, types_at, named_lft}
pub use denote.Steps.{nothing}
pub use denote.Triple.Entry.{alive}
pub use denote.Triple.Walked.{says, Stays, stay_dropped, walk_of, ends_at, Goes-dropped}

abbrev pub none : Val
none = vstruct vnil

abbrev pub fieldless : RattleType
fieldless = Struct (record { name = []; args = []; types = []; fields = [] })

pub none_made : {M : Type 1} {𝓤 : Ura M} {𝓛 : Logic 𝓤} {K : Type 0} {Γ : List (Item 𝓤)} {G : Goal 𝓤 𝓛.H} → K → Step K 𝓛 (‵ (fieldless.own_val tt (none ∷ [])) ∷ Γ) G Γ G
none_made t = step (λ s.
    nothing t $ feq_i t (List Val) (none ∷ []) (none ∷ []) refl $ fjoin t $
    fpack t (Valss []) (within (record { name = []; args = []; types = []; fields = [] }) tt (none ∷ [])) tt $ s)
