use Rattle.std.proofs.Common.{ap, ◌∙◌}
use Rattle.std.proofs.lemmas.Result.{err_from_is_err_and}
use Rattle.bh_base.specs.Connections.{state}
use Rattle.bh_http.proofs.BodyLemmas.{gives_none, going_may}
use Rattle.bh_schema.specs.Working.{tables_at}
use Rattle.bh_objects.proofs.Receiving.{received_err, counted_whole}
use Rattle.bh_uploads.specs.Found.{part_bytes_in}
use Rattle.bh_uploads.proofs.PartSteps.{part_chain, part_size_again}
use Rattle.bh_uploads.proofs.parts.store_part.Goals as goal

pub returns-in_err-require_number-clause-stores : goal.returns-in_err-require_number-clause-stores
returns-in_err-require_number-clause-stores g c =
    let p = err_from_is_err_and c.from_residual.result c.from_residual.ensures.1 in
    received_err c.from_residual.result _ _ _ _ p.0 p.1 _ (gives_none _ c.requires.may.going) (going_may _ c.requires.may.going)

pub returns-in_err-outcome-clause-stores : goal.returns-in_err-outcome-clause-stores
returns-in_err-outcome-clause-stores g c =
    let p = err_from_is_err_and c.from_residual-in_err-outcome.result c.from_residual-in_err-outcome.ensures.1 in
    let it = c.in_err-outcome.ensures.received in
    received_err c.from_residual-in_err-outcome.result _ _ _ _ p.0 p.1 it.bytes it.gives it.received

pub add_part-requires-clause-held : goal.add_part-requires-clause-held
add_part-requires-clause-held g c clean =
    let part = c.args.part.now in
    let (whole, right, told, becomes) = (rw c.in-Done.is at c.in_ok-outcome.ensures.received).received in
    ap (part_bytes_in part.upload.tenant.now c.args.upload part.number) (rw c.as_str-name.ensures.value at (becomes clean).is) ∙ part_size_again part.upload.tenant.now c.args.upload part.number _ _ (tables_at (state g.S.Store g.P.Shelf c.args.connection.now))
    ∙ c.requires.held (c.in_ok-outcome.ensures.within.follows.clean clean)

pub returns-in-Spoilt-clause-stores : goal.returns-in-Spoilt-clause-stores
returns-in-Spoilt-clause-stores g c =
    let it = rw c.in-Spoilt.is at c.in_ok-outcome.ensures.received in
    record { bytes = it.bytes; gives = it.gives; received = it.received }

pub returns-in_err-add_part-in-Done-clause-stores : goal.returns-in_err-add_part-in-Done-clause-stores
returns-in_err-add_part-in-Done-clause-stores g c =
    let p = err_from_is_err_and c.from_residual-in_err-add_part-in-Done.result c.from_residual-in_err-add_part-in-Done.ensures.1 in
    let it = rw c.in-Done.is at c.in_ok-outcome.ensures.received in
    received_err c.from_residual-in_err-add_part-in-Done.result _ _ _ _ p.0 p.1 it.bytes it.gives (going_may _ it.received.0.going)

pub returns-in_err-drop_old-in-Done-clause-stores : goal.returns-in_err-drop_old-in-Done-clause-stores
returns-in_err-drop_old-in-Done-clause-stores g c =
    let p = err_from_is_err_and c.from_residual-in_err-drop_old-in-Done.result c.from_residual-in_err-drop_old-in-Done.ensures.1 in
    let it = rw c.in-Done.is at c.in_ok-outcome.ensures.received in
    received_err c.from_residual-in_err-drop_old-in-Done.result _ _ _ _ p.0 p.1 it.bytes it.gives (going_may _ it.received.0.going)

pub returns-in_ok-drop_old-in-Done-clause-stores : goal.returns-in_ok-drop_old-in-Done-clause-stores
returns-in_ok-drop_old-in-Done-clause-stores g c =
    let part = c.args.part.now in
    let it = rw c.in-Done.is at c.in_ok-outcome.ensures.received in
    let (whole, right, told, becomes) = it.received in
    let count = c.due-size.ensures ∙ counted_whole _ _ it.bytes it.gives whole in
    record {
      bytes = it.bytes;
      gives = it.gives;
      received = (
        whole,
        right,
        told,
        (
          c.in_ok-require_number.ensures.least,
          c.in_ok-require_number.ensures.most,
          λ clean.
              let clean_row = c.in_ok-drop_old-in-Done.ensures.changes.within.follows.clean clean in
              let clean_body = c.in_ok-add_part-in-Done.ensures.changes.within.follows.clean clean_row in
              let clean_old = c.in_ok-outcome.ensures.within.follows.clean clean_body in
              let last = c.in_ok-drop_old-in-Done.ensures.changes.holds clean in
              record {
                within = last.within;
                is = part_chain g.D.Digester.digest_of c.args.blocks.now.size part.upload.tenant.now c.args.upload part.number it.bytes part.at c.args.taken.entry c.args.taken.replaced
                    (tables_at (state g.S.Store g.P.Shelf c.args.connection.now)) (tables_at (state g.S.Store g.P.Shelf c.store_checked.new.connection)) (tables_at (state g.S.Store g.P.Shelf c.add_part.new.connection)) (tables_at (state g.S.Store g.P.Shelf c.drop_old.new.connection))
                    (c.requires.replaced clean_old) (rw c.as_str-name.ensures.value at (becomes clean_body).is) (rw (count, c.as_str.ensures.value, told) at (c.in_ok-add_part-in-Done.ensures.changes.holds clean_row).is) last.is;
              },
        ),
      );
    }
