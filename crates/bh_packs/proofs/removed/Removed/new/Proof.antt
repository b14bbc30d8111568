-- `new` makes a value with no files.
use Rattle.std.proofs.Common.{[], ◌∷◌, refl}
use Rattle.std.proofs.raw_atomic.Walks.{proved}
use mir.Syntax.{a_type}
use mir.MapTy.{inst_fn}
use mir.Val.{vstruct, vcons, vnil}
use contract.Running.{tables}
use types.Kit.{‵, raw, ◌⊛◌, ◌$◌, ◌∵◌, !, qed, done, move, keep, split, join, suffices}
use types.Run.{enter, no_more, and_then, returns}
use types.Part.{agg}
use types.ByLocal.{alloc_all, pass_all, free_all, look_at, get, sets}
use denote.Param.{param, layouts}
use denote.RattleType.{RattleType, owns}
use denote.Shadow.{pure_i}
use denote.Signature.{types_at}
use denote.Steps.{nothing}
use denote.Triple.Entry.{alive}
use denote.Triple.Walked.{walk_of, says, ends_at}
use Rattle.bh_packs.specs.contracts.removed.Removed as struct
use Rattle.bh_packs.specs.contracts.removed.Removed.new.{ended, clauses}
use Rattle.bh_packs.specs.contracts.removed.Removed.new.Key.{name as #self}
use Rattle.bh_packs.proofs.removed.Removed.new.Statement.{statement}
use Rattle.bh_packs.proofs.removed.Removed.new.Code as code

pub new_spec : {M : Type 1} → statement M
new_spec 𝓤 𝓛 𝓜 𝓡 wired T L =
    let H = 𝓛.H in let 𝓣 = tables 𝓤 H 𝓜 𝓡 𝓡.env in let R : RattleType = struct.the_row (param 0 T) in
    let En = ended T in let c = clauses T 𝓛 𝓜.mem 𝓡.returns in let W = walk_of 𝓛 En tt c in
    let inst = layouts (a_type ∷ []) (T, tt) in let fn = inst_fn inst code.function in
    proved 𝓛 En tt c 𝓜 𝓡 tt (#self inst) fn (code.unfolded 𝓤 H 𝓜 𝓡 wired (T, tt)) (λ κs. tt) (λ κs. tt) (λ κs qs bounds a g are.
    let y : W.Ghost = ((κs, qs, bounds, a, tt), g) in
    let v = vstruct (vcons (vstruct vnil) vnil) in
    let r : R.Denot = record { marker = record {}; files = [] } in
    qed 𝓛 ((raw (alive 𝓛 En.signature κs qs) ⊛ ‵ (owns (types_at En.signature.params κs) a tt)) ∷ raw ((c κs a).requires g) ∷ []) ∵ split ! $ keep ! (0 ∷ []) $
    enter ! 𝓣.C 𝓣.Λ fn [] (W.post y) $ alloc_all ! (λ l. pass_all ! refl tt $
    sets ! (agg ! (no_more !)) refl (tt, tt) $ sets ! (agg ! (and_then ! (get ! refl) (no_more !))) refl (tt, (tt, tt)) $
    returns ! (look_at ! 0 refl) $ free_all ! refl $
    pure_i ! (R.own_val r (v ∷ [])) ((λ vss. (tt, ((λ uss. (tt, tt)), tt))), tt) (((vstruct vnil ∷ [], tt), (refl, ((tt, (refl, tt)), tt))), tt) $
    suffices ! _ (ends_at 𝓛 En tt c y v r tt tt) $ says ! refl $ nothing ! $ join ! $ move ! (1 ∷ 0 ∷ []) $ join ! $ done !))
