-- `bring` does nothing but give the record two events.
use Rattle.bh_pack_files.proofs.Steps.{[], ◌∷◌, refl, proved, ftrue, flft, named, vunit, tables, ‵, ◌⊛◌, ◌$◌, ◌∵◌, !, qed, done, move, keep, split, join, fsplit3, feq_i, suffices, frame, group, enter, of_opd, unit_lit, returns, alloc_all, pass_all, free_all, look_at, sets, MutRef, mut_vals, mut_Tells, plain, nothing, opens, closes, Stays, walk_of, says, stay_ref, Goes-ref, ends_at}
use Rattle.bh_pack_files.specs.Note.{brought}
use Rattle.bh_pack_files.specs.contracts.record.Record.bring as f
use Rattle.bh_pack_files.specs.contracts.record.Record.{the_row as R}
use Rattle.bh_pack_files.proofs.record.Record.bring.Statement.{statement}
use Rattle.bh_pack_files.proofs.record.Record.bring.Code as code

abbrev stayed : Stays f.ended.signature.params f.ended.kept
stayed = (stay_ref (0 ∷ []) tt (plain (λ _. R)), tt)

pub bring_spec : {M : Type 1} → statement M
bring_spec 𝓤 𝓛 𝓜 𝓡 wired =
    let c = f.clauses 𝓛 𝓜.mem 𝓡.returns in let W = walk_of 𝓛 f.ended stayed c in let 𝓣 = tables 𝓤 𝓛.H 𝓜 𝓡 𝓡.env in
    proved 𝓛 f.ended stayed c 𝓜 𝓡 (Goes-ref 𝓛 1 0 tt (plain (λ _. R)), tt)
    f.Key.name code.function (code.unfolded 𝓤 𝓛.H 𝓜 𝓡 wired)
    (λ κs. (mut_vals, tt)) (λ κs. (mut_Tells (named 0) κs.0 R, tt)) (λ κs qs bounds a n are.
    let b = a.0.ref_ptr.0 in let o = a.0.ref_ptr.1 in let h = a.0.now in let vs = mut_vals a.0 in
    let y : W.Ghost = ((κs, qs, bounds, a, (vs, tt)), n) in
    qed 𝓛 (((‵ (flft κs.0 qs.0) ⊛ ‵ ftrue) ⊛ (‵ ((MutRef (named 0) κs.0 R).own_val a.0 vs) ⊛ ‵ ftrue)) ∷ ‵ ftrue ∷ []) ∵
    split ! $ split ! $ move ! (2 ∷ []) $ split ! $ keep ! (0 ∷ 1 ∷ 2 ∷ []) $
    -- [self; no other parameter; the token]
    enter ! _ _ _ _ _ $ alloc_all ! (λ l. pass_all ! refl ((tt, tt), tt) $
    fsplit3 ! $ move ! (1 ∷ 2 ∷ 4 ∷ []) $ opens ! tt R b o (λ us.
    closes ! tt R (record h { events = brought n h.events }) us b o $
    sets ! (of_opd ! (unit_lit !)) refl (tt, tt) $ returns ! (look_at ! 0 refl) $ free_all ! refl $
    suffices ! _ (ends_at 𝓛 f.ended stayed c y vunit tt (record h { events = brought n h.events }, tt) (tt, tt)) $ says ! refl $
    -- [two parts of self; its token; self's first part; no other parameter]
    move ! (3 ∷ 0 ∷ 1 ∷ []) $ group ! 3 $ move ! (0 ∷ 2 ∷ []) $ join ! $
    nothing ! $ move ! (2 ∷ 0 ∷ []) $ join ! $ frame ! $ frame ! $
    feq_i ! _ (vunit ∷ []) _ refl $ done !)))
