use Rattle.std.proofs.Common.{◌≡◌, inl, inr, Result, Ok, Err, OnOk, sym, subst, ◌∙◌}
use Rattle.std.proofs.lemmas.Result.{on_ok_weaker, IfOk-weaker, IfErr-weaker}
use Rattle.sqlite.specs.Held.{state}
use Rattle.bh_base.specs.Layer.{Standing, standing}
use Rattle.bh_migration.specs.Listing.{Lists}
use Rattle.bh_open.specs.Opening.{IsTypedFor, Opens}
use Rattle.bh_open.specs.Versions.{schema_of}
use Rattle.bh_open.proofs.Steps.{opens_brought, opens_same, left_over, taken_same}
use Rattle.bh_open.proofs.open.bring.Goals as goal

ok_given : {X E P : Type 0} (r : Result X E) → P → OnOk r P
ok_given (Ok x) p = p
ok_given (Err e) p = tt

pub returns-in-First-clause-opens : goal.returns-in-First-clause-opens
returns-in-First-clause-opens g c = on_ok_weaker c.bring_over.result (λ settles clean.
    let old = standing (state g.S.Store c.args.connection.now) in
    let schema = c.requires.schema (c.bring_over.ensures.follows.clean clean) in
    opens_brought c.args.version old (standing (state g.S.Store c.bring_over.new.connection)) schema (inl (subst (λ v. old.now.schema ≡ schema_of v) c.in-First.is schema)) (settles clean)) c.bring_over.ensures.settles

pub returns-in-First-clause-crash : goal.returns-in-First-clause-crash
returns-in-First-clause-crash g c =
    let old = state g.S.Store c.args.connection.now in
    left_over old (state g.S.Store c.bring_over.new.connection) c.bring_over.ensures.follows (λ clean. inl (subst (λ v. (standing old).now.schema ≡ schema_of v) c.in-First.is (c.requires.schema clean))) c.bring_over.ensures.crash

pub returns-in-Second-clause-opens : goal.returns-in-Second-clause-opens
returns-in-Second-clause-opens g c = on_ok_weaker c.bring_over-in-Second.result (λ settles clean.
    let old = standing (state g.S.Store c.args.connection.now) in
    let schema = c.requires.schema (c.bring_over-in-Second.ensures.follows.clean clean) in
    opens_brought c.args.version old (standing (state g.S.Store c.bring_over-in-Second.new.connection)) schema (inr (inl (subst (λ v. old.now.schema ≡ schema_of v) c.in-Second.is schema))) (settles clean)) c.bring_over-in-Second.ensures.settles

pub returns-in-Second-clause-crash : goal.returns-in-Second-clause-crash
returns-in-Second-clause-crash g c =
    let old = state g.S.Store c.args.connection.now in
    left_over old (state g.S.Store c.bring_over-in-Second.new.connection) c.bring_over-in-Second.ensures.follows (λ clean. inr (inl (subst (λ v. (standing old).now.schema ≡ schema_of v) c.in-Second.is (c.requires.schema clean)))) c.bring_over-in-Second.ensures.crash

pub returns-in-Third-clause-opens : goal.returns-in-Third-clause-opens
returns-in-Third-clause-opens g c = on_ok_weaker c.bring_over-in-Third.result (λ settles clean.
    let old = standing (state g.S.Store c.args.connection.now) in
    let schema = c.requires.schema (c.bring_over-in-Third.ensures.follows.clean clean) in
    opens_brought c.args.version old (standing (state g.S.Store c.bring_over-in-Third.new.connection)) schema (inr (inr (inl (subst (λ v. old.now.schema ≡ schema_of v) c.in-Third.is schema)))) (settles clean)) c.bring_over-in-Third.ensures.settles

pub returns-in-Third-clause-crash : goal.returns-in-Third-clause-crash
returns-in-Third-clause-crash g c =
    let old = state g.S.Store c.args.connection.now in
    left_over old (state g.S.Store c.bring_over-in-Third.new.connection) c.bring_over-in-Third.ensures.follows (λ clean. inr (inr (inl (subst (λ v. (standing old).now.schema ≡ schema_of v) c.in-Third.is (c.requires.schema clean))))) c.bring_over-in-Third.ensures.crash

pub returns-in-Fourth-clause-opens : goal.returns-in-Fourth-clause-opens
returns-in-Fourth-clause-opens g c = on_ok_weaker c.bring_over-in-Fourth.result (λ settles clean.
    let old = standing (state g.S.Store c.args.connection.now) in
    let schema = c.requires.schema (c.bring_over-in-Fourth.ensures.follows.clean clean) in
    opens_brought c.args.version old (standing (state g.S.Store c.bring_over-in-Fourth.new.connection)) schema (inr (inr (inr (subst (λ v. old.now.schema ≡ schema_of v) c.in-Fourth.is schema)))) (settles clean)) c.bring_over-in-Fourth.ensures.settles

pub returns-in-Fourth-clause-crash : goal.returns-in-Fourth-clause-crash
returns-in-Fourth-clause-crash g c =
    let old = state g.S.Store c.args.connection.now in
    left_over old (state g.S.Store c.bring_over-in-Fourth.new.connection) c.bring_over-in-Fourth.ensures.follows (λ clean. inr (inr (inr (subst (λ v. (standing old).now.schema ≡ schema_of v) c.in-Fourth.is (c.requires.schema clean))))) c.bring_over-in-Fourth.ensures.crash

pub see_packs-requires : goal.see_packs-requires
see_packs-requires g c = record { schema = λ clean. subst (λ v. (standing (state g.S.Store c.args.connection.now)).now.schema ≡ schema_of v) c.in-Fifth.is (c.requires.schema clean) }

pub returns-in-Fifth-clause-opens : goal.returns-in-Fifth-clause-opens
returns-in-Fifth-clause-opens g c = ok_given c.see_packs.result (λ clean.
    let old = standing (state g.S.Store c.args.connection.now) in
    let new = standing (state g.S.Store c.see_packs.new.connection) in
    let was = c.see_packs.ensures.follows.clean clean in
    let same : new ≡ old = c.see_packs.ensures.back clean ∙ taken_same old (c.requires.outside was) (c.requires.committed was) in
    subst (λ (x : Standing). Opens c.args.version old x) (sym same)
    (subst (λ v. Opens v old old) (sym c.in-Fifth.is) (opens_same old (subst (λ v. old.now.schema ≡ schema_of v) c.in-Fifth.is (c.requires.schema was)) (c.requires.outside was) (c.requires.committed was))))

pub returns-in-Fifth-clause-listed : goal.returns-in-Fifth-clause-listed
returns-in-Fifth-clause-listed g c = IfOk-weaker c.see_packs.result _ _ (λ listed lists clean.
    let old = standing (state g.S.Store c.args.connection.now) in
    let was = c.see_packs.ensures.follows.clean clean in
    subst (λ (x : Standing). Lists x.now listed.items) (sym (c.see_packs.ensures.back clean ∙ taken_same old (c.requires.outside was) (c.requires.committed was))) (lists clean)) c.see_packs.ensures.lists

pub returns-in-Fifth-clause-crash : goal.returns-in-Fifth-clause-crash
returns-in-Fifth-clause-crash g c intact db left = inl (c.see_packs.ensures.survives intact db left)

pub returns-in-Fifth-clause-trouble : goal.returns-in-Fifth-clause-trouble
returns-in-Fifth-clause-trouble g c = IfErr-weaker c.see_packs.result _ _ (λ e trouble intact unlimited typed.
    trouble intact unlimited c.requires.outside (λ clean. subst (λ v. IsTypedFor v (standing (state g.S.Store c.args.connection.now)).now) c.in-Fifth.is (typed clean))) c.see_packs.ensures.trouble

pub returns-in-First-clause-trouble : goal.returns-in-First-clause-trouble
returns-in-First-clause-trouble g c = IfErr-weaker c.bring_over.result _ _ (λ e trouble intact unlimited typed.
    trouble intact unlimited (λ clean. subst (λ v. IsTypedFor v (standing (state g.S.Store c.args.connection.now)).now) c.in-First.is (typed clean))) c.bring_over.ensures.trouble

pub returns-in-Second-clause-trouble : goal.returns-in-Second-clause-trouble
returns-in-Second-clause-trouble g c = IfErr-weaker c.bring_over-in-Second.result _ _ (λ e trouble intact unlimited typed.
    trouble intact unlimited (λ clean. subst (λ v. IsTypedFor v (standing (state g.S.Store c.args.connection.now)).now) c.in-Second.is (typed clean))) c.bring_over-in-Second.ensures.trouble

pub returns-in-Third-clause-trouble : goal.returns-in-Third-clause-trouble
returns-in-Third-clause-trouble g c = IfErr-weaker c.bring_over-in-Third.result _ _ (λ e trouble intact unlimited typed.
    trouble intact unlimited (λ clean. subst (λ v. IsTypedFor v (standing (state g.S.Store c.args.connection.now)).now) c.in-Third.is (typed clean))) c.bring_over-in-Third.ensures.trouble

pub returns-in-Fourth-clause-trouble : goal.returns-in-Fourth-clause-trouble
returns-in-Fourth-clause-trouble g c = IfErr-weaker c.bring_over-in-Fourth.result _ _ (λ e trouble intact unlimited typed.
    trouble intact unlimited (λ clean. subst (λ v. IsTypedFor v (standing (state g.S.Store c.args.connection.now)).now) c.in-Fourth.is (typed clean))) c.bring_over-in-Fourth.ensures.trouble
