use Rattle.std.proofs.Common.{sym, subst}
use Rattle.std.proofs.lemmas.Result.{on_ok_weaker}
use Rattle.sqlite.specs.Held.{state}
use Rattle.bh_tables.specs.Schema.{host_schema}
use Rattle.bh_tables.specs.Typed.{raw}
use Rattle.bh_base.specs.Layer.{standing}
use Rattle.bh_migration.specs.Migration.{earlier_schema, earlier_raw, HasSchema, HasRows}
use Rattle.bh_migration.proofs.making.make_tables.Goals as goal

pub complete_first-requires : goal.complete_first-requires
complete_first-requires g c clean = subst (λ v. HasSchema (earlier_schema v) (standing (state g.S.Store c.args.connection.now))) c.in-First.is (c.requires clean)

pub returns-in-First-clause-made : goal.returns-in-First-clause-made
returns-in-First-clause-made g c = on_ok_weaker c.complete_first.result (λ made clean.
    let old = standing (state g.S.Store c.args.connection.now) in
    let new = standing (state g.S.Store c.complete_first.new.connection) in
    subst (λ v. HasRows host_schema raw (earlier_raw v old.now.trees) new) (sym c.in-First.is) (made clean)) c.complete_first.ensures.made

pub complete_second-requires : goal.complete_second-requires
complete_second-requires g c clean = subst (λ v. HasSchema (earlier_schema v) (standing (state g.S.Store c.args.connection.now))) c.in-Second.is (c.requires clean)

pub returns-in-Second-clause-made : goal.returns-in-Second-clause-made
returns-in-Second-clause-made g c = on_ok_weaker c.complete_second.result (λ made clean.
    let old = standing (state g.S.Store c.args.connection.now) in
    let new = standing (state g.S.Store c.complete_second.new.connection) in
    subst (λ v. HasRows host_schema raw (earlier_raw v old.now.trees) new) (sym c.in-Second.is) (made clean)) c.complete_second.ensures.made

pub complete_third-requires : goal.complete_third-requires
complete_third-requires g c clean = subst (λ v. HasSchema (earlier_schema v) (standing (state g.S.Store c.args.connection.now))) c.in-Third.is (c.requires clean)

pub returns-in-Third-clause-made : goal.returns-in-Third-clause-made
returns-in-Third-clause-made g c = on_ok_weaker c.complete_third.result (λ made clean.
    let old = standing (state g.S.Store c.args.connection.now) in
    let new = standing (state g.S.Store c.complete_third.new.connection) in
    subst (λ v. HasRows host_schema raw (earlier_raw v old.now.trees) new) (sym c.in-Third.is) (made clean)) c.complete_third.ensures.made

pub complete_fourth-requires : goal.complete_fourth-requires
complete_fourth-requires g c clean = subst (λ v. HasSchema (earlier_schema v) (standing (state g.S.Store c.args.connection.now))) c.in-Fourth.is (c.requires clean)

pub returns-in-Fourth-clause-made : goal.returns-in-Fourth-clause-made
returns-in-Fourth-clause-made g c = on_ok_weaker c.complete_fourth.result (λ made clean.
    let old = standing (state g.S.Store c.args.connection.now) in
    let new = standing (state g.S.Store c.complete_fourth.new.connection) in
    subst (λ v. HasRows host_schema raw (earlier_raw v old.now.trees) new) (sym c.in-Fourth.is) (made clean)) c.complete_fourth.ensures.made
