use Rattle.std.proofs.Common.{Result, Ok, Err, OnOk, ◌∙◌}
use Rattle.std.proofs.lemmas.Result.{IfErr-weaker}
use Rattle.sqlite.specs.Held.{state}
use Rattle.bh_base.specs.Layer.{standing}
use Rattle.bh_migration.proofs.Stages.{all_brought, is_tallied}
use Rattle.bh_migration.proofs.change.Goals as goal

both : {X E A B C : Type 0} (r : Result X E) → (A → B → C) → OnOk r A → OnOk r B → OnOk r C
both (Ok x) f a b = f a b
both (Err e) f a b = tt

pub tally-requires : goal.tally-requires
tally-requires g c clean = let it = c.in_ok-make_tables.ensures.made clean in record { inside = it.inside; schema = it.schema }

pub weigh-requires : goal.weigh-requires
weigh-requires g c clean = c.in_ok-tally.ensures.keeps clean

pub set_version-requires : goal.set_version-requires
set_version-requires g c clean = c.in_ok-weigh.ensures.keeps clean

pub returns-clause-brings : goal.returns-clause-brings
returns-clause-brings g c = both c.set_version.result (λ keeps holds clean.
    let three = c.set_version.ensures.within.follows.clean clean in
    let two = c.weigh.ensures.within.follows.clean three in
    let one = c.tally.ensures.within.follows.clean two in
    let zero = c.make_tables.ensures.within.follows.clean one in
    all_brought c.args.version (standing (state g.S.Store c.args.connection.now)) (standing (state g.S.Store c.make_tables.new.connection)) (standing (state g.S.Store c.weigh.new.connection)) (standing (state g.S.Store c.set_version.new.connection))
    (c.requires zero) (c.in_ok-make_tables.ensures.made one) (λ t it. c.in_ok-weigh.ensures.holds three t (c.in_ok-tally.ensures.holds two t it)) (keeps clean) (λ host. holds clean (λ _. host))) c.set_version.ensures.keeps c.set_version.ensures.holds

pub returns-clause-trouble : goal.returns-clause-trouble
returns-clause-trouble g c = IfErr-weaker c.set_version.result _ _ (λ e trouble intact unlimited host.
    trouble intact (c.weigh.ensures.within.follows.limit ∙ c.tally.ensures.within.follows.limit ∙ c.make_tables.ensures.within.follows.limit ∙ unlimited) (λ clean.
    (is_tallied c.args.version (standing (state g.S.Store c.args.connection.now)) (standing (state g.S.Store c.make_tables.new.connection)) (standing (state g.S.Store c.weigh.new.connection)) (standing (state g.S.Store c.set_version.new.connection))
    (c.in_ok-make_tables.ensures.made (c.tally.ensures.within.follows.clean (c.weigh.ensures.within.follows.clean clean)))
    (λ t it. c.in_ok-weigh.ensures.holds clean t (c.in_ok-tally.ensures.holds (c.weigh.ensures.within.follows.clean clean) t it)) host).within.host)) c.set_version.ensures.trouble
