use Rattle.std.proofs.Common.{inr, sym, ap, ◌∙◌, subst}
use Rattle.std.proofs.lemmas.Result.{IfOk-weaker}
use Rattle.sqlite.specs.Held.{state}
use Rattle.bh_base.specs.Layer.{Standing, standing}
use Rattle.bh_blocks.specs.Digests.{digest_by}
use Rattle.bh_migration.specs.Listing.{Lists}
use Rattle.bh_maintenance.proofs.Verdicts.{verdict_weaker, sound_before}
use Rattle.bh_maintenance.proofs.checks.check_present.Goals as goal

pub check_listed-requires-clause-schema : goal.check_listed-requires-clause-schema
check_listed-requires-clause-schema g c clean =
    let it = c.in-Ok.ensures in
    let was = it.follows.clean clean in
    ap (λ (x : Standing). x.now.schema) (it.back clean ∙ c.requires.settled was) ∙ c.requires.schema was

pub check_listed-requires-clause-listed : goal.check_listed-requires-clause-listed
check_listed-requires-clause-listed g c clean =
    let it = c.in-Ok.ensures in
    let lists = subst (λ (x : Standing). Lists x.now c.in-Ok.listed.items) (sym (it.back clean ∙ c.requires.settled (it.follows.clean clean))) (it.lists clean) in
    subst (Lists (standing (state g.S.Store c.see_packs.new.connection)).now) (sym c.deref.ensures.value) lists

pub returns-in-Ok : goal.returns-in-Ok
returns-in-Ok g c =
    let it = c.in-Ok.ensures in
    IfOk-weaker c.check_listed.result _ _
    (λ done told. verdict_weaker _ _ done.printed
    (λ sound clean live pure. sound_before (g.K.ClosedPacks.has c.args.closed) (digest_by c.args.digest) (state g.S.Store c.args.connection) (state g.S.Store c.see_packs.new.connection) it.follows
    (λ now. it.back now ∙ c.requires.settled (it.follows.clean now)) (sound clean live pure)) told)
    c.check_listed.ensures

pub returns-in-Err : goal.returns-in-Err
returns-in-Err g c = IfOk-weaker c.check_none.result _ _ (λ done one. inr one) c.check_none.ensures
