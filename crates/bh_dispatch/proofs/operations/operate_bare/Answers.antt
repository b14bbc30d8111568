use Rattle.std.proofs.Common.{refl}
use Rattle.std.proofs.lemmas.Result.{err_from_is_err_and}
use Rattle.bh_base.specs.Connections.{state}
use Rattle.bh_http.proofs.BodyLemmas.{breaks_may}
use Rattle.bh_machine.specs.Machine.{bare_operated}
use Rattle.bh_http.specs.Answers.{response_view}
use Rattle.bh_http.specs.declared.response.Response.{Response}
use Rattle.bh_host.specs.Offers.{responded}
use Rattle.bh_schema.specs.Working.{tables_at}
use Rattle.bh_dispatch.proofs.Operating.{still, works_err}
use Rattle.bh_dispatch.proofs.Receiving.{operates_err}
use Rattle.bh_dispatch.proofs.operations.operate_bare.Goals as goal

pub returns-in-Err : goal.returns-in-Err
returns-in-Err g c =
    let (given, gives) = c.drain.ensures.some in
    record {
      works = still g.S.Store g.P.Shelf c.args.connection.now c.requires.working _ (λ P p. tt);
      operates = record { given = given; gives = gives; decided = breaks_may _ c.in-Err.ensures.broken; carries = λ _. tt };
    }

pub returns-in_err-response-in-Ok : goal.returns-in_err-response-in-Ok
returns-in_err-response-in-Ok g c =
    let p = err_from_is_err_and c.from_residual.result c.from_residual.ensures.1 in
    let (given, gives) = c.drain.ensures.some in
    let h = c.in_err-response-in-Ok.ensures in
    let old = c.args.connection.now in
    let new = c.carry_out.new.connection in
    rw (p.1, p.2) (record {
      works = works_err g.S.Store g.P.Shelf old new Response Response c.in_err-response-in-Ok.field-0.0 h.works;
      operates = operates_err response_view c.args.asked.now.tenant.now (λ _ s. responded (bare_operated c.args.asked.now.at c.args.operation.now s)) _ _ _ (tables_at (state g.S.Store g.P.Shelf old)) (tables_at (state g.S.Store g.P.Shelf new))
          given gives c.in-Ok.ensures.whole given refl c.in_err-response-in-Ok.field-0.0 h.carries;
    })

pub returns-in_ok-response-in-Ok : goal.returns-in_ok-response-in-Ok
returns-in_ok-response-in-Ok g c =
    let (given, gives) = c.drain.ensures.some in
    let h = c.in_ok-response-in-Ok.ensures in
    record {
      works = record { within = h.works.within; opens = h.works.opens; working = h.works.working };
      operates = record { given = given; gives = gives; decided = c.in-Ok.ensures.whole; carries = h.carries };
    }
