use Rattle.std.proofs.Common.{◌≡◌, Some, None, option_map, Ok, IfOk, find, sym, ap, subst, ◌∙◌}
use Rattle.bh_base.specs.Connections.{state}
use Rattle.bh_tables.specs.Typed.{VersionRow}
use Rattle.bh_tables.specs.Shown.{is_version}
use Rattle.bh_view.proofs.WantedLemmas.{no_row}
use Rattle.bh_base.specs.Connections.{IsClean}
use Rattle.bh_schema.specs.Rows.{seen_head}
use Rattle.bh_schema.specs.Views.{head_seen}
use Rattle.bh_schema.specs.Working.{tables_at}
use Rattle.bh_listing.proofs.Numbering.{seq_found}
use Rattle.bh_listing.proofs.versions.seq_of.Goals as goal

pub returns-in_default-clause-seq : goal.returns-in_default-clause-seq
returns-in_default-clause-seq g c clean =
    sym (ap (option_map (λ (v : VersionRow). v.seq)) (no_row (tables_at (state g.S.Store g.P.Shelf c.args.connection.now)) c.args.tenant.now (c.requires clean).sound c.args.bucket.now c.args.key.now c.args.id c.in_default.ensures.none))

pub returns-in-Some-2-clause-seq : goal.returns-in-Some-2-clause-seq
returns-in-Some-2-clause-seq g c clean =
    let versions = (tables_at (state g.S.Store g.P.Shelf c.args.connection.now)).versions in
    let found = subst (λ r. IfOk r (λ found. IsClean g.S.Store g.P.Shelf c.version_of_id.new.connection → option_map head_seen found ≡ option_map seen_head (find (is_version c.args.tenant.now c.args.bucket.now c.args.key.now c.in-Some.number) versions)))
    (c.in_ok-head.ensures.ok ∙ ap (λ o. Ok o) c.in-Some-2.is) c.version_of_id.ensures.found in
    seq_found c.args.tenant.now c.args.bucket.now c.args.key.now c.args.id c.in-Some.number versions (Some c.in-Some-2.head) c.in-Some.ensures.some.0 (found clean)

pub returns-in-None-clause-seq : goal.returns-in-None-clause-seq
returns-in-None-clause-seq g c clean =
    let versions = (tables_at (state g.S.Store g.P.Shelf c.args.connection.now)).versions in
    let found = subst (λ r. IfOk r (λ found. IsClean g.S.Store g.P.Shelf c.version_of_id.new.connection → option_map head_seen found ≡ option_map seen_head (find (is_version c.args.tenant.now c.args.bucket.now c.args.key.now c.in-Some.number) versions)))
    (c.in_ok-head.ensures.ok ∙ ap (λ o. Ok o) c.in-None.is) c.version_of_id.ensures.found in
    seq_found c.args.tenant.now c.args.bucket.now c.args.key.now c.args.id c.in-Some.number versions None c.in-Some.ensures.some.0 (found clean)
