use Rattle.std.proofs.Common.{map, sym, ap, ◌∙◌}
use Rattle.std.proofs.lemmas.Result.{IfOk-weaker}
use Rattle.bh_base.specs.Connections.{state}
use Rattle.sqlite_keyed.proofs.ListLemmas.{map-map}
use Rattle.bh_tables.specs.Shown.{tenants_by_name}
use Rattle.bh_tables.specs.Typed.{Tables}
use Rattle.bh_schema.specs.Working.{tables_at}
use Rattle.bh_usage.specs.Listed.{tenant_seen, quota_in_row, told_with}
use Rattle.bh_usage.proofs.Asked.{asked_inside, same_tables}
use Rattle.bh_usage.proofs.listing.read_all.Goals as goal

pub all_with_keys-requires : goal.all_with_keys-requires
all_with_keys-requires g c =
    let old = state g.S.Store g.P.Shelf c.args.connection.now in
    let one = state g.S.Store g.P.Shelf c.tenant_list.new.connection in
    record { inside = asked_inside old one c.tenant_list.ensures.reads.within c.requires.inside c.in_ok-listed.ensures.reads.same }

pub returns-clause-told : goal.returns-clause-told
returns-clause-told g c = IfOk-weaker c.all_with_keys.result _ _ (λ all told clean.
    let old = state g.S.Store g.P.Shelf c.args.connection.now in
    let one = state g.S.Store g.P.Shelf c.tenant_list.new.connection in
    let between = c.all_with_keys.ensures.reads.within.follows.clean clean in
    let rows = tenants_by_name (tables_at old).tenants in
    told clean ∙ sym (map-map (told_with (tables_at one)) tenant_seen _)
    ∙ ap (map (told_with (tables_at one))) (ap (map tenant_seen) c.deref.ensures.value ∙ c.in_ok-listed.ensures.listed between)
    ∙ ap (λ (x : Tables). map (told_with x) (map (quota_in_row (tables_at old)) rows)) (same_tables old one (c.in_ok-listed.ensures.reads.same between.intact))
    ∙ map-map (told_with (tables_at old)) (quota_in_row (tables_at old)) rows) c.all_with_keys.ensures.told
