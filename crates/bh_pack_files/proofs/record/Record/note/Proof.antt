-- `note` does nothing but give the record its next event.
use Rattle.bh_pack_files.proofs.Steps.{[], ◌∷◌, refl, proved, ftrue, flft, named, vunit, tables, ‵, ◌⊛◌, ◌$◌, ◌∵◌, !, qed, done, move, keep, split, join, fsplit3, feq_i, suffices, frame, group, enter, of_opd, unit_lit, returns, alloc_all, pass_all, free_all, look_at, sets, u8, u64, yes, MutRef, mut_vals, mut_Tells, plain, ShrSlice, shr_slice_vals, shr_slice_Tells, nothing, opens, closes, Stays, walk_of, says, stay_ref, Goes-ref, stay_none_slice, Goes-none_slice, ends_at}
use Rattle.bh_pack_files.specs.Note.{event_of}
use Rattle.bh_pack_files.specs.contracts.record.Record.note as f
use Rattle.bh_pack_files.specs.contracts.record.Record.{the_row as R}
use Rattle.bh_pack_files.proofs.record.Record.note.Statement.{statement}
use Rattle.bh_pack_files.proofs.record.Record.note.Code as code

abbrev stayed : Stays f.ended.signature.params f.ended.kept
stayed = (stay_ref (0 ∷ []) tt (plain (λ _. R)), (stay_none_slice (1 ∷ []) tt (plain (λ _. u64)) yes, (stay_none_slice (2 ∷ []) tt (plain (λ _. u8)) yes, tt)))

pub note_spec : {M : Type 1} → statement M
note_spec 𝓤 𝓛 𝓜 𝓡 wired =
    let c = f.clauses 𝓛 𝓜.mem 𝓡.returns in let W = walk_of 𝓛 f.ended stayed c in let 𝓣 = tables 𝓤 𝓛.H 𝓜 𝓡 𝓡.env in
    proved 𝓛 f.ended stayed c 𝓜 𝓡 (Goes-ref 𝓛 3 0 tt (plain (λ _. R)), (Goes-none_slice 𝓛 3 (1 ∷ []) tt (plain (λ _. u64)) yes, (Goes-none_slice 𝓛 3 (2 ∷ []) tt (plain (λ _. u8)) yes, tt)))
    f.Key.name code.function (code.unfolded 𝓤 𝓛.H 𝓜 𝓡 wired)
    (λ κs. (mut_vals, (shr_slice_vals, (shr_slice_vals, tt))))
    (λ κs. (mut_Tells (named 0) κs.0 R, (shr_slice_Tells (named 1) κs.1.0 u64, (shr_slice_Tells (named 2) κs.1.1.0 u8, tt)))) (λ κs qs bounds a _ are.
    let b = a.0.ref_ptr.0 in let o = a.0.ref_ptr.1 in let h = a.0.now in let vs = mut_vals a.0 in
    let y : W.Ghost = ((κs, qs, bounds, a, (vs, (shr_slice_vals a.1.0, (shr_slice_vals a.1.1.0, tt)))), tt) in
    qed 𝓛 (((‵ (flft κs.0 qs.0) ⊛ (‵ (flft κs.1.0 qs.1.0) ⊛ (‵ (flft κs.1.1.0 qs.1.1.0) ⊛ ‵ ftrue)))
    ⊛ (‵ ((MutRef (named 0) κs.0 R).own_val a.0 vs)
    ⊛ (‵ ((ShrSlice (named 1) κs.1.0 u64).own_val a.1.0 (shr_slice_vals a.1.0)) ⊛ (‵ ((ShrSlice (named 2) κs.1.1.0 u8).own_val a.1.1.0 (shr_slice_vals a.1.1.0)) ⊛ ‵ ftrue)))) ∷ ‵ ftrue ∷ []) ∵
    split ! $ split ! $ move ! (1 ∷ []) $ split ! $ move ! (1 ∷ []) $ split ! $ move ! (4 ∷ []) $ split ! $ keep ! (0 ∷ 1 ∷ 5 ∷ 4 ∷ 2 ∷ []) $
    -- [self; the slices; the tokens of all three]
    enter ! _ _ _ _ _ $ alloc_all ! (λ l. pass_all ! refl ((tt, tt), ((tt, (tt, (record { fits = are.1.0.0.1.0 }, tt))), ((tt, (tt, (record { fits = are.1.1.0.0.1.0 }, tt))), tt))) $
    fsplit3 ! $ move ! (1 ∷ 2 ∷ 4 ∷ []) $ opens ! tt R b o (λ us.
    closes ! tt R (record h { events = event_of a.1.0.now a.1.1.0.now ∷ h.events }) us b o $
    sets ! (of_opd ! (unit_lit !)) refl (tt, tt) $ returns ! (look_at ! 0 refl) $ free_all ! refl $
    suffices ! _ (ends_at 𝓛 f.ended stayed c y vunit tt (record h { events = event_of a.1.0.now a.1.1.0.now ∷ h.events }, (tt, (tt, tt))) (tt, (tt, (tt, tt)))) $ says ! refl $
    -- [two parts of self; its token; self's first part; the slices; the other tokens]
    move ! (3 ∷ 0 ∷ 1 ∷ []) $ group ! 3 $ move ! (0 ∷ 2 ∷ []) $ join ! $
    nothing ! $ move ! (4 ∷ 0 ∷ []) $ join ! $ move ! (3 ∷ 0 ∷ []) $ join ! $ move ! (2 ∷ 0 ∷ []) $ join ! $ frame ! $ frame ! $
    feq_i ! _ (vunit ∷ []) _ refl $ done !)))
