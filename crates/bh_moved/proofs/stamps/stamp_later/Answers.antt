use Rattle.std.proofs.Common.{rules, ◌≡◌, max, unwrap_or, ap, ap₂, ◌∙◌}
use Rattle.bh_base.specs.Connections.{state}
use Rattle.bh_tables.specs.Typed.{Tables, tables_in}
use Rattle.bh_base.specs.Layer.{Standing}
use Rattle.bh_schema.specs.Working.{tables_at}
use Rattle.bh_view.specs.View.{latest_of, with_latest}
use Rattle.bh_blocks.proofs.Keeping.{still_inside}
use Rattle.bh_moved.proofs.Chains.{latest_found}
use Rattle.bh_moved.proofs.stamps.stamp_later.Goals as goal

pub set_latest-requires-clause-inside : goal.set_latest-requires-clause-inside
set_latest-requires-clause-inside g c = still_inside _ _ c.in_ok-find_latest-2.ensures.reads.within c.in_ok-find_latest-2.ensures.reads.same c.requires.inside

pub returns-clause-stamped : goal.returns-clause-stamped
returns-clause-stamped g c reading clean =
    let from : Tables = tables_at (state g.S.Store g.P.Shelf c.args.from.now) in
    let to : Tables = tables_at (state g.T.Store g.Q.Shelf c.args.to.now) in
    let it = c.in_ok-set_latest.ensures.holds clean in
    let was = c.in_ok-set_latest.ensures.writes.within.follows.clean clean in
    let same : tables_at (state g.T.Store g.Q.Shelf c.find_latest-2.new.connection) ≡ to = ap (λ (x : Standing). tables_in x.now) (c.in_ok-find_latest-2.ensures.reads.same was.intact) in
    let own : c.unwrap_or-own.result ≡ unwrap_or c.in_ok-find_latest-2.field-0 0 = search rules in
    let given : c.unwrap_or-given.result ≡ unwrap_or c.in_ok-find_latest.field-0 0 = search rules in
    let own_is : c.unwrap_or-own.result ≡ latest_of to = own ∙ ap (λ o. unwrap_or o 0) (c.in_ok-find_latest-2.ensures.found was) ∙ latest_found to in
    let given_is : c.unwrap_or-given.result ≡ latest_of from = given ∙ ap (λ o. unwrap_or o 0) (c.in_ok-find_latest.ensures.found reading) ∙ latest_found from in
    let larger : c.max.result ≡ max c.unwrap_or-own.result c.unwrap_or-given.result = search rules in
    let stamp : c.in_ok-stamp.stamp ≡ max (latest_of to) (latest_of from) = c.in_ok-stamp.ensures.same ∙ larger ∙ ap₂ max own_is given_is in
    record { within = it.within; is = it.is ∙ ap₂ with_latest stamp same }
