use Rattle.std.proofs.Common.{rules, arith, ◌∙◌}
use Rattle.bh_base.specs.Connections.{state}
use Rattle.bh_http.proofs.BodyLemmas.{if_err, going_may}
use Rattle.bh_view.specs.Bodies.{pieces, body_stored}
use Rattle.bh_schema.specs.Working.{tables_at}
use Rattle.bh_schema.proofs.Storing.{on_ok, within_then}
use Rattle.bh_objects.proofs.bodies.store_pieces.Goals as goal

pub returns : goal.returns
returns g c =
    let new = c.begin_body-draft.ensures in
    let whole = c.in_ok-hasher.ensures.whole in
    let taken = c.in_ok-hasher.ensures.takes.taken in
    let (given, gives, held, goes) = taken.came in
    let ended = c.end_body.ensures in
    let is = c.in_ok-or_trouble.ensures.ok in
    let start = tables_at (state g.S.Store g.P.Shelf c.args.connection.now) in
    record {
      stores = record {
        within = within_then _ _ _ taken.opens taken.within ended.within;
        opens = λ intact up. on_ok _ is ended.opens intact (taken.opens (ended.within.follows.intact intact) up);
        stored = (
          given,
          gives,
          whole,
          c.finalize.ensures given held,
          λ clean.
              let h = on_ok _ is ended.stored clean given start (goes (ended.within.follows.clean clean)) in
              record {
                within = h.within;
                is = h.is ∙ (λ i. body_stored g.D.Digester.digest_of (taken.of i) 0 (pieces (taken.size i) given) start)
                    ∙ (λ i. body_stored g.D.Digester.digest_of (new.tenant i, new.body i) 0 (pieces (new.size i) given) start);
              },
        );
        stopped = tt;
      };
    }

pub returns-in_err-or_trouble : goal.returns-in_err-or_trouble
returns-in_err-or_trouble g c =
    let taken = c.in_ok-hasher.ensures.takes.taken in
    let (given, gives, held, goes) = taken.came in
    record {
      stores = record {
        within = within_then _ _ _ taken.opens taken.within c.end_body.ensures.within;
        opens = search rules;
        stored = search rules;
        stopped = if_err c.from_residual-in_err-or_trouble.result (given, gives, going_may _ taken.going);
      };
    }
