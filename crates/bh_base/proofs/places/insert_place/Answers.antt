use Rattle.std.proofs.Common.{◌≡◌, SFits, to_z-of_z, ap, ◌∙◌}
use Rattle.std.specs.Int.{w64, cast_signed}
use Rattle.sqlite.specs.Value.{owned}
use Rattle.sqlite.specs.declared.types.Value.TheVariants.{Int}
use Rattle.bh_tables.specs.Rows.{PlaceRow}
use Rattle.bh_tables.specs.Shown.{Name}
use Rattle.bh_tables.proofs.PlaceTexts.{place_inserted}
use Rattle.bh_base.specs.Places.{row_of_place}
use Rattle.bh_base.proofs.PlaceCalls.{place_turns}
use Rattle.bh_base.proofs.places.insert_place.Goals as goal

pub returns : goal.returns
returns g c =
    let fits : SFits w64 c.cast_signed.result = record { sfits = c.cast_signed.type_inv } in
    let summed : owned c.to_sql-2.result ≡ Int (cast_signed w64 c.args.place.sum) = c.to_sql-2.ensures ∙ ap Int (to_z-of_z fits ∙ c.cast_signed.ensures) in
    let h = rw (c.to_sql.ensures, c.number.ensures, c.number-2.ensures, c.number-3.ensures, c.number-4.ensures, summed) at c.execute.ensures in
    let live = c.schema-schema.ensures.live in
    let q : Name = (c.args.digest.now, c.args.ord) in
    let p : PlaceRow = row_of_place q c.args.place in
    let t = place_turns g.S.Store g.P.Shelf c.args.connection.now c.execute.new.self c.args.place q c.requires.midst c.requires.there c.execute.result live h.runs h.survives (place_inserted p) in
    record { writes = t.writes; rewrites = t.rewrites; placed = t.placed }
