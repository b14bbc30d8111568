use Rattle.bh_listing.proofs.rows.Keyed.query.Goals as goal

pub returns : goal.returns
returns g c =
    let h = rw (c.to_sql.ensures, c.to_sql-2.ensures, c.to_sql-3.ensures, c.to_sql-4.ensures, c.number.ensures) at c.query_all.ensures in
    record { ok = h.ok; err = h.err; survives = h.survives }
