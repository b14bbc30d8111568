use Rattle.std.proofs.Common.{ap, ◌∙◌}
use Rattle.std.proofs.lemmas.Result.{err_from_is_err_and}
use Rattle.bh_base.specs.Connections.{state}
use Rattle.bh_http.proofs.BodyLemmas.{going_may}
use Rattle.bh_view.specs.Bodies.{pieces, body_stored}
use Rattle.bh_schema.specs.Working.{tables_at}
use Rattle.bh_schema.specs.Written.{bytes_of_id}
use Rattle.bh_objects.specs.declared.quotas.NewEntry.{NewEntry}
use Rattle.bh_objects.proofs.Receiving.{received_err, received_chain, counted_whole}
use Rattle.bh_objects.proofs.Sizes.{size_again}
use Rattle.bh_objects.proofs.objects.store_object.Goals as goal

pub returns-in_err-outcome-clause-received : goal.returns-in_err-outcome-clause-received
returns-in_err-outcome-clause-received g c =
    let p = err_from_is_err_and c.from_residual.result c.from_residual.ensures.1 in
    let it = c.in_err-outcome.ensures.received in
    received_err c.from_residual.result _ _ _ _ p.0 p.1 it.bytes it.gives it.received

pub write_object-requires-clause-held : goal.write_object-requires-clause-held
write_object-requires-clause-held g c clean r is =
    let object = c.args.object.now in
    let (whole, right, told, becomes) = (rw c.in-Done.is at c.in_ok-outcome.ensures.received).received in
    let one = rw c.as_str-tenant.ensures.value at (becomes clean).is in
    ap (bytes_of_id object.tenant.now object.bucket.now object.key.now 0) one ∙ size_again object.tenant.now object.bucket.now object.key.now 0 _ _ (tables_at (state g.S.Store g.P.Shelf c.args.connection.now))
    ∙ c.requires.held (c.in_ok-outcome.ensures.within.follows.clean clean) r is

pub returns-in_err-write_object-in-Done-clause-received : goal.returns-in_err-write_object-in-Done-clause-received
returns-in_err-write_object-in-Done-clause-received g c =
    let p = err_from_is_err_and c.from_residual-in_err-write_object-in-Done.result c.from_residual-in_err-write_object-in-Done.ensures.1 in
    let it = rw c.in-Done.is at c.in_ok-outcome.ensures.received in
    received_err c.from_residual-in_err-write_object-in-Done.result _ _ _ _ p.0 p.1 it.bytes it.gives (going_may _ it.received.0.going)

pub returns-in_ok-write_object-in-Done-clause-received : goal.returns-in_ok-write_object-in-Done-clause-received
returns-in_ok-write_object-in-Done-clause-received g c =
    let object = c.args.object.now in
    let numbers = c.args.entry.numbers in
    let it = rw c.in-Done.is at c.in_ok-outcome.ensures.received in
    let (whole, right, told, becomes) = it.received in
    let written = c.in_ok-write_object-in-Done.ensures in
    let it_bytes = it.bytes in
    record {
      bytes = it.bytes;
      gives = it.gives;
      received = (
        whole,
        right,
        told,
        (
          written.key,
          λ clean.
              let it_is = written.changes.holds clean in
              record {
                within = it_is.within;
                is = received_chain g.D.Digester.digest_of c.args.blocks.now.size c.args.mode numbers.before numbers.after c.args.entry.replaced object.tenant.now object.bucket.now object.key.now object.at it.bytes _ _
                    (tables_at (state g.S.Store g.P.Shelf c.args.connection.now)) (tables_at (state g.S.Store g.P.Shelf c.store_checked.new.connection)) (tables_at (state g.S.Store g.P.Shelf c.write_object.new.connection))
                    (rw c.as_str-tenant.ensures.value at (becomes (written.changes.within.follows.clean clean)).is
                    ∙ ap (λ (it : NewEntry). body_stored g.D.Digester.digest_of (object.tenant.now, it.numbers.before.entry) 0 (pieces c.args.blocks.now.size it_bytes) (tables_at (state g.S.Store g.P.Shelf c.args.connection.now))) c.entry.view_is) (c.due-size.ensures ∙ counted_whole _ _ it.bytes it.gives whole) (c.as_str.ensures.value ∙ told) it_is.is;
              },
        ),
      );
    }

pub returns-in-Spoilt-clause-received : goal.returns-in-Spoilt-clause-received
returns-in-Spoilt-clause-received g c =
    let it = rw c.in-Spoilt.is at c.in_ok-outcome.ensures.received in
    record { bytes = it.bytes; gives = it.gives; received = it.received }
