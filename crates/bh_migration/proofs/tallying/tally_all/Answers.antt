use Rattle.std.proofs.Common.{[], map, ap, sym, subst, ◌∙◌}
use Rattle.std.proofs.lemmas.Result.{on_ok_weaker}
use Rattle.sqlite.specs.Held.{state}
use Rattle.bh_tables.specs.Typed.{Tables}
use Rattle.bh_migration.specs.Tallying.{shown_name, HoldsTallies}
use Rattle.bh_migration.proofs.Tallied.{carried}
use Rattle.bh_migration.proofs.tallying.tally_all.Goals as goal

pub tally_each-requires : goal.tally_each-requires
tally_each-requires g c clean = carried (state g.S.Store c.args.connection.now) (state g.S.Store c.name_rows.new.connection) c.name_rows.ensures.reads.within.follows c.requires c.in_ok-rows.ensures.reads.same clean

pub returns-clause-holds : goal.returns-clause-holds
returns-clause-holds g c = on_ok_weaker c.tally_each.result (λ adds clean t holds.
    let before = c.tally_each.ensures.within.follows.clean clean in
    let rows = c.deref.ensures.value ∙ c.in_ok-rows.ensures.rows before _ holds.within.host ∙ ap (λ (x : Tables). map shown_name x.tenants) holds.is in
    adds clean t rows (subst (HoldsTallies t []) (sym (c.in_ok-rows.ensures.reads.same before.intact)) holds)) c.tally_each.ensures.adds
