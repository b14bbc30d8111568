-- `new` makes a record whose only event is that the file was synced.
use Rattle.bh_pack_files.proofs.Steps.{[], ◌∷◌, refl, proved, ftrue, vstruct, vcons, vnil, tables, ‵, raw, ◌$◌, ◌∵◌, !, qed, done, keep, join, suffices, enter, no_more, and_then, returns, alloc_all, pass_all, free_all, look_at, get, sets, agg, pure_i, nothing, on_entry, walk_of, says, ends_at}
use Rattle.sqlite_disk.specs.Events.{settled}
use Rattle.bh_pack_files.specs.declared.record.Record.{Record}
use Rattle.bh_pack_files.specs.contracts.record.Record.new as f
use Rattle.bh_pack_files.specs.contracts.record.Record.{the_row as R}
use Rattle.bh_pack_files.proofs.record.Record.new.Statement.{statement}
use Rattle.bh_pack_files.proofs.record.Record.new.Code as code

pub new_spec : {M : Type 1} → statement M
new_spec 𝓤 𝓛 𝓜 𝓡 wired =
    let c = f.clauses 𝓛 𝓜.mem 𝓡.returns in let W = walk_of 𝓛 f.ended tt c in let 𝓣 = tables 𝓤 𝓛.H 𝓜 𝓡 𝓡.env in
    proved 𝓛 f.ended tt c 𝓜 𝓡 tt f.Key.name code.function (code.unfolded 𝓤 𝓛.H 𝓜 𝓡 wired) (λ κs. tt) (λ κs. tt) (λ κs qs bounds a _ are.
    let y : W.Ghost = ((κs, qs, bounds, a, tt), tt) in
    let v = vstruct (vcons (vstruct vnil) vnil) in
    let r : Record = record { marker = record {}; events = settled 0 ∷ [] } in
    qed 𝓛 (raw (on_entry 𝓛 f.signature κs qs a tt) ∷ ‵ ftrue ∷ []) ∵ keep ! [] $
    enter ! _ _ _ _ _ $ alloc_all ! (λ l. pass_all ! refl tt $
    sets ! (agg ! (no_more !)) refl (tt, tt) $ sets ! (agg ! (and_then ! (get ! refl) (no_more !))) refl (tt, (tt, tt)) $
    returns ! (look_at ! 0 refl) $ free_all ! refl $
    pure_i ! (R.own_val r (v ∷ [])) ((λ vss. (tt, ((λ uss. (tt, tt)), tt))), tt) (((vstruct vnil ∷ [], tt), (refl, ((tt, (refl, tt)), tt))), tt) $
    suffices ! _ (ends_at 𝓛 f.ended tt c y v r tt tt) $ says ! refl $ nothing ! $ join ! $ nothing ! $ done !))
