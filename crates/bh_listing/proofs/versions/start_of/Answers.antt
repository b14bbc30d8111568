use Rattle.std.proofs.Common.{sym, ap, subst, ◌∙◌}
use Rattle.bh_base.specs.Connections.{state}
use Rattle.bh_schema.specs.Working.{tables_at}
use Rattle.bh_pages.specs.Seen.{token_of}
use Rattle.bh_pages.proofs.Starting.{start_low}
use Rattle.bh_pages.specs.Places.{IsUnder}
use Rattle.bh_listing.specs.Versions.{Beginning, listed_from, own_rows}
use Rattle.bh_listing.proofs.VersionStarting.{begins_unmarked, begins_missing, begins_there}
use Rattle.bh_listing.proofs.versions.start_of.Goals as goal

pub returns-in_default-clause-under : goal.returns-in_default-clause-under
returns-in_default-clause-under g c =
    subst (λ (b : Beginning). IsUnder c.args.asked.now.prefix.now b.place.key b.place.after) (sym c.in_ok-start_past.ensures) (start_low c.args.asked.now.prefix.now (token_of c.args.asked.now))

pub returns-in_default-clause-begins : goal.returns-in_default-clause-begins
returns-in_default-clause-begins g c clean =
    let tables = tables_at (state g.S.Store g.P.Shelf c.args.connection.now) in
    ap (λ b. listed_from c.args.asked.now b (own_rows c.args.tenant.now c.args.bucket.now tables.versions)) c.in_ok-start_past.ensures
    ∙ begins_unmarked tables c.args.tenant.now c.args.bucket.now (c.requires.working clean).sound c.args.asked.now c.args.version (sym c.in_default.ensures)

pub returns-in_ok-start_older-in-Some-2-clause-begins : goal.returns-in_ok-start_older-in-Some-2-clause-begins
returns-in_ok-start_older-in-Some-2-clause-begins g c clean =
    let tables = tables_at (state g.S.Store g.P.Shelf c.args.connection.now) in
    ap (λ b. listed_from c.args.asked.now b (own_rows c.args.tenant.now c.args.bucket.now tables.versions)) c.in_ok-start_older-in-Some-2.ensures
    ∙ begins_there tables c.args.tenant.now c.args.bucket.now (c.requires.working (c.in_ok-seq.ensures.reads.within.follows.clean clean)).sound c.args.asked.now c.args.version c.in-Some.key.now c.in-Some.id (sym c.in-Some.ensures)
    c.in-Some-2.seq (sym c.in-Some-2.is ∙ c.in_ok-seq.ensures.seq clean)

pub returns-in_ok-start_past-in-None-clause-under : goal.returns-in_ok-start_past-in-None-clause-under
returns-in_ok-start_past-in-None-clause-under g c =
    subst (λ (b : Beginning). IsUnder c.args.asked.now.prefix.now b.place.key b.place.after) (sym c.in_ok-start_past-in-None.ensures) (start_low c.args.asked.now.prefix.now (token_of c.args.asked.now))

pub returns-in_ok-start_past-in-None-clause-begins : goal.returns-in_ok-start_past-in-None-clause-begins
returns-in_ok-start_past-in-None-clause-begins g c clean =
    let tables = tables_at (state g.S.Store g.P.Shelf c.args.connection.now) in
    ap (λ b. listed_from c.args.asked.now b (own_rows c.args.tenant.now c.args.bucket.now tables.versions)) c.in_ok-start_past-in-None.ensures
    ∙ begins_missing tables c.args.tenant.now c.args.bucket.now (c.requires.working (c.in_ok-seq.ensures.reads.within.follows.clean clean)).sound c.args.asked.now c.args.version c.in-Some.key.now c.in-Some.id (sym c.in-Some.ensures)
    (sym c.in-None.is ∙ c.in_ok-seq.ensures.seq clean)
