use Rattle.std.proofs.Common.{subst}
use Rattle.std.proofs.lemmas.Result.{on_ok_weaker}
use Rattle.sqlite.specs.Held.{state}
use Rattle.bh_base.specs.Layer.{standing}
use Rattle.bh_migration.specs.Migration.{HoldsUntallied}
use Rattle.bh_migration.proofs.tally.Goals as goal

pub returns-in-First-clause-holds : goal.returns-in-First-clause-holds
returns-in-First-clause-holds g c = on_ok_weaker c.tally_tenants.result (λ holds clean t it. holds clean t (subst (λ v. HoldsUntallied v t (standing (state g.S.Store c.args.connection.now))) c.in-First.is it)) c.tally_tenants.ensures.holds

pub returns-in-Second-clause-holds : goal.returns-in-Second-clause-holds
returns-in-Second-clause-holds g c = on_ok_weaker c.tally_tenants-in-Second.result (λ holds clean t it. holds clean t (subst (λ v. HoldsUntallied v t (standing (state g.S.Store c.args.connection.now))) c.in-Second.is it)) c.tally_tenants-in-Second.ensures.holds

pub returns-in-Third-clause-holds : goal.returns-in-Third-clause-holds
returns-in-Third-clause-holds g c clean t it = subst (λ v. HoldsUntallied v t (standing (state g.S.Store c.args.connection.now))) c.in-Third.is it

pub returns-in-Fourth-clause-holds : goal.returns-in-Fourth-clause-holds
returns-in-Fourth-clause-holds g c clean t it = subst (λ v. HoldsUntallied v t (standing (state g.S.Store c.args.connection.now))) c.in-Fourth.is it
