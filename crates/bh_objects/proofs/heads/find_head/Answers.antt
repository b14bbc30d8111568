use Rattle.std.proofs.Common.{◌≡◌, Option, option_map, IfOk, sym, ap, ◌∙◌, subst}
use Rattle.bh_base.specs.Connections.{state}
use Rattle.bh_types.specs.declared.wanted.Wanted.{Wanted}
use Rattle.bh_types.specs.declared.wanted.Wanted.TheVariants.{Named}
use Rattle.bh_tables.specs.Typed.{VersionRow}
use Rattle.bh_view.specs.Wanted.{wanted_row}
use Rattle.bh_view.proofs.WantedLemmas.{named_row, no_row}
use Rattle.bh_base.specs.Connections.{IsClean}
use Rattle.bh_schema.specs.Rows.{seen_head}
use Rattle.bh_schema.specs.Views.{head_seen}
use Rattle.bh_schema.specs.Working.{tables_at}
use Rattle.bh_objects.proofs.heads.find_head.Goals as goal

pub returns-in-Some-clause-found : goal.returns-in-Some-clause-found
returns-in-Some-clause-found g c =
    let t = c.args.tenant.now in
    let b = c.args.bucket.now in
    let k = c.args.key.now in
    let versions = (tables_at (state g.S.Store g.P.Shelf c.args.connection.now)).versions in
    subst (λ (o : Option VersionRow). IfOk c.numbered_head.result (λ found. IsClean g.S.Store g.P.Shelf c.numbered_head.new.connection → option_map head_seen found ≡ option_map seen_head o))
    (sym (ap (λ (w : Wanted). wanted_row t b k w versions) c.in-Named.is ∙ ap (λ x. wanted_row t b k (Named x) versions) (sym c.in-Some.ensures.some.0) ∙ named_row t b k c.in-Some.number versions)) c.numbered_head.ensures.found

pub returns-in-None-clause-found : goal.returns-in-None-clause-found
returns-in-None-clause-found g c clean =
    let old = tables_at (state g.S.Store g.P.Shelf c.args.connection.now) in
    sym (ap (option_map seen_head) (ap (λ (w : Wanted). wanted_row c.args.tenant.now c.args.bucket.now c.args.key.now w old.versions) c.in-Named.is
    ∙ no_row old c.args.tenant.now (c.requires clean).sound c.args.bucket.now c.args.key.now c.in-Named.id c.in-None.ensures.none))
