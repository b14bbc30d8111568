-- `note` does nothing but give the value its next file.
use Rattle.std.proofs.Common.{[], ◌∷◌, refl}
use Rattle.std.proofs.raw_atomic.Walks.{proved}
use mir.Syntax.{a_type, named}
use mir.MapTy.{inst_fn}
use mir.Val.{vunit}
use base.Fml.{ftrue, flft}
use contract.Running.{tables}
use types.Kit.{‵, raw, ◌⊛◌, ◌$◌, ◌∵◌, !, qed, done, move, keep, split, join, fsplit3, feq_i, suffices, frame, group}
use types.Run.{enter, of_opd, unit_lit, returns}
use types.ByLocal.{alloc_all, pass_all, free_all, look_at, sets}
use denote.Builtin.{RefOf}
use denote.Exit.{yes}
use denote.Param.{param, layouts}
use denote.RattleType.{RattleType}
use denote.Ref.{MutRef, mut_vals, mut_Tells, ShrRef, shr_vals, shr_Tells}
use denote.Signature.{plain}
use denote.Steps.{nothing, opens, closes}
use denote.Triple.Walked.{Stays, walk_of, says, stay_ref, Goes-ref, stay_dropped, Goes-dropped, ends_at}
use Rattle.bh_packs.specs.contracts.removed.Removed as struct
use Rattle.bh_packs.specs.contracts.removed.Removed.note.{ended, clauses}
use Rattle.bh_packs.specs.contracts.removed.Removed.note.Key.{name as #self}
use Rattle.bh_packs.proofs.removed.Removed.note.Statement.{statement}
use Rattle.bh_packs.proofs.removed.Removed.note.Code as code

pub note_spec : {M : Type 1} → statement M
note_spec 𝓤 𝓛 𝓜 𝓡 wired T L =
    let H = 𝓛.H in let 𝓣 = tables 𝓤 H 𝓜 𝓡 𝓡.env in let F : RattleType = param 0 T in let R : RattleType = struct.the_row F in
    let En = ended T in let c = clauses T 𝓛 𝓜.mem 𝓡.returns in let arg = RefOf (1 ∷ []) tt (plain (λ _. F)) (λ _. tt) in
    let hs : Stays En.signature.params En.kept = (stay_ref (0 ∷ []) tt (plain (λ _. R)), (stay_dropped arg yes, tt)) in
    let W = walk_of 𝓛 En hs c in
    let inst = layouts (a_type ∷ []) (T, tt) in let fn = inst_fn inst code.function in
    proved 𝓛 En hs c 𝓜 𝓡 (Goes-ref 𝓛 3 0 tt (plain (λ _. R)), (Goes-dropped 𝓛 3 arg yes (λ κs x f. refl), tt))
    (#self inst) fn (code.unfolded 𝓤 H 𝓜 𝓡 wired (T, tt))
    (λ κs. (mut_vals, (shr_vals, tt))) (λ κs. (mut_Tells (named 0) κs.0 R, (shr_Tells (named 1) κs.1.0 F, tt))) (λ κs qs bounds a g are.
    let b = a.0.ref_ptr.0 in let o = a.0.ref_ptr.1 in let h = a.0.now in let vs = mut_vals a.0 in let file = shr_vals a.1.0 in
    let after : R.Denot = record h { files = a.1.0.now ∷ h.files } in
    let y : W.Ghost = ((κs, qs, bounds, a, (vs, (file, tt))), g) in
    qed 𝓛 (((‵ (flft κs.0 qs.0) ⊛ (‵ (flft κs.1.0 qs.1.0) ⊛ (‵ (flft κs.1.1.0 qs.1.1.0) ⊛ ‵ ftrue)))
    ⊛ (‵ ((MutRef (named 0) κs.0 R).own_val a.0 vs) ⊛ (‵ ((ShrRef (named 1) κs.1.0 F).own_val a.1.0 file) ⊛ ‵ ftrue))) ∷ raw ((c κs a).requires g) ∷ []) ∵
    split ! $ split ! $ move ! (2 ∷ []) $ split ! $ keep ! (0 ∷ 2 ∷ 3 ∷ []) $
    -- [self; its token; the other tokens]
    enter ! _ _ _ _ _ $ alloc_all ! (λ l. pass_all ! refl ((tt, tt), ((tt, tt), tt)) $
    fsplit3 ! $ move ! (1 ∷ 2 ∷ 3 ∷ []) $ opens ! tt R b o (λ us.
    closes ! tt R after us b o $
    sets ! (of_opd ! (unit_lit !)) refl (tt, tt) $ returns ! (look_at ! 0 refl) $ free_all ! refl $
    suffices ! _ (ends_at 𝓛 En hs c y vunit tt (after, (tt, tt)) (tt, (tt, tt))) $ says ! refl $
    -- [two parts of self; its token; self's first part; the other tokens]
    move ! (3 ∷ 0 ∷ 1 ∷ []) $ group ! 3 $ nothing ! $ nothing ! $ join ! $ move ! (1 ∷ 0 ∷ []) $ join ! $
    move ! (1 ∷ 2 ∷ []) $ join ! $ frame ! $ frame ! $ feq_i ! _ (vunit ∷ []) _ refl $ done !)))
