use Rattle.bh_base.specs.Connections.{state}
use Rattle.bh_machine.specs.Machine.{operated}
use Rattle.bh_http.specs.Answers.{response_view}
use Rattle.bh_host.specs.Offers.{offer_view}
use Rattle.bh_schema.specs.Working.{tables_at}
use Rattle.bh_dispatch.proofs.Offering.{offered_spoilt, offered_plans, offered_on, keeps_blocks, stores_no_object}
use Rattle.bh_dispatch.proofs.Operating.{operates_by_any}
use Rattle.bh_dispatch.proofs.Receiving.{kept_operated}
use Rattle.bh_dispatch.proofs.operations.operate.Goals as goal

pub returns-in-GetObject-clause-operated : goal.returns-in-GetObject-clause-operated
unfolding operated
returns-in-GetObject-clause-operated g c =
    let it = c.get_object in
    rw c.in-GetObject.is (operates_by_any g.S.Store g.P.Shelf c.args.connection.now it.new.connection g.D.Digester.digest_of (offer_view (tables_at (state g.S.Store g.P.Shelf it.new.connection))) c.args.tenant.now _ (λ _. Unit {0}) _ _ it.result (λ _. tt)
    (rw c.bytes_of.ensures at it.ensures.found))

pub returns-in-GetObject-clause-kept : goal.returns-in-GetObject-clause-kept
returns-in-GetObject-clause-kept g c =
    let it = c.get_object in
    kept_operated c.args.blocks.now.cache.now (offer_view (tables_at (state g.S.Store g.P.Shelf it.new.connection))) c.args.tenant.now _ (λ _. Unit {0}) _ _ it.result (state g.S.Store g.P.Shelf c.args.connection.now) (state g.S.Store g.P.Shelf it.new.connection) (λ clean. c.requires.blocks.kept (it.ensures.found.works.within.follows.clean clean))
    (stores_no_object _ _ _ _ _ _ _ _ it.result it.ensures.found.operates)

pub returns-in-Bare : goal.returns-in-Bare
unfolding operated
returns-in-Bare g c =
    let it = c.operate_bare in
    let old = c.args.connection.now in
    let new = it.new.connection in
    rw (c.in-Bare.is, c.offered.ensures) (record {
      operated = offered_on g.S.Store g.P.Shelf c.args.tenant.now old new _ _ _ it.result g.D.Digester.digest_of _
          (operates_by_any g.S.Store g.P.Shelf old new g.D.Digester.digest_of response_view c.args.tenant.now _ _ _ _ it.result (λ _. tt) it.ensures);
      measured = offered_plans it.result _;
      kept = keeps_blocks g.S.Store g.P.Shelf c.args.tenant.now old new _ _ _ it.result c.args.blocks.now.cache.now c.requires.blocks.kept it.ensures;
    })

pub returns-in-ByDocument : goal.returns-in-ByDocument
unfolding operated
returns-in-ByDocument g c =
    let it = c.operate_document in
    let old = c.args.connection.now in
    let new = it.new.connection in
    rw (c.in-ByDocument.is, c.offered-in-ByDocument.ensures) (record {
      operated = offered_on g.S.Store g.P.Shelf c.args.tenant.now old new _ _ _ it.result g.D.Digester.digest_of _
          (operates_by_any g.S.Store g.P.Shelf old new g.D.Digester.digest_of response_view c.args.tenant.now _ _ _ _ it.result (λ _. tt) it.ensures);
      measured = offered_plans it.result _;
      kept = keeps_blocks g.S.Store g.P.Shelf c.args.tenant.now old new _ _ _ it.result c.args.blocks.now.cache.now c.requires.blocks.kept it.ensures;
    })

pub returns-in-Store : goal.returns-in-Store
unfolding operated
returns-in-Store g c =
    let it = c.operate_store in
    rw (c.in-Store.is, c.offered-in-Store.ensures) (record {
      operated = offered_on g.S.Store g.P.Shelf c.args.tenant.now c.args.connection.now it.new.connection _ _ _ it.result g.D.Digester.digest_of _ it.ensures.operated;
      measured = offered_plans it.result _;
      kept = offered_spoilt it.result _ it.ensures.kept;
    })
