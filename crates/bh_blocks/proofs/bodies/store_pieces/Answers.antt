use Rattle.std.proofs.Common.{◌≡◌, [], ◌∙◌}
use Rattle.bh_base.specs.Connections.{state}
use Rattle.bh_view.specs.Bodies.{pieces, body_stored}
use Rattle.bh_schema.specs.Working.{tables_at}
use Rattle.bh_blocks.specs.Drafts.{drafted}
use Rattle.bh_blocks.proofs.Drafting.{begins}
use Rattle.bh_blocks.proofs.bodies.store_pieces.Goals as goal

pub returns-clause-stored : goal.returns-clause-stored
returns-clause-stored g c = λ clean.
    let digest = g.D.Digester.digest_of in
    let old = tables_at (state g.S.Store g.P.Shelf c.args.connection.now) in
    let begun = c.begin_body-draft in
    let pushed = c.in_ok-push.ensures in
    let last = c.in_ok-end_body.ensures in
    let named : drafted begun.result ≡ (c.args.tenant.now, c.args.body) = λ i. (begun.ensures.tenant i, begun.ensures.body i) in
    let of = pushed.of ∙ named in
    let size = pushed.size ∙ begun.ensures.size in
    let all = last.stored clean c.args.bytes.now old (pushed.goes (last.within.follows.clean clean) [] old (begins digest begun.result old begun.ensures.place begun.ensures.waiting)) in
    record {
      within = all.within;
      is = all.is ∙ (λ i. body_stored digest (of i) 0 (pieces (size i) c.args.bytes.now) old);
    }
